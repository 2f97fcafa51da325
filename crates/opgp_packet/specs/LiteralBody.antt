-- The body of a literal (RFC 9580, 5.9): format, a name after its size, a date, and the content.
use Rattle.std.specs.Prelude.{ℕ, List, [], ◌∷◌, length}
use Rattle.opgp_octets.specs.declared.fault.BodyFault.{BodyFault}
use Rattle.opgp_octets.specs.declared.fault.Reason.TheVariants.{Short}
use Rattle.opgp_packet.specs.Fields.{octet, sized, four, whole, Field, small, named, wide, bare}
use Rattle.opgp_packet.specs.Fields.{Grammar, sequence}
use Rattle.opgp_packet.specs.Fields.{Body, FirstFault}

-- a name may have any size
unfoldable pub literal : Grammar
literal = sequence (octet ∷ sized Short 0 255 ∷ four ∷ whole ∷ [])

-- the fields of a literal, as values
pub record LiteralValue : Type 0 where
  pub format : ℕ
  pub name : List ℕ
  pub date : ℕ
  pub content : List ℕ

-- the fields that encode it
abbrev pub literal_fields : LiteralValue → List Field
literal_fields v = small v.format ∷ named v.name ∷ wide v.date ∷ bare v.content ∷ []

-- the octets are the literal's, and nothing more
abbrev pub SpellsLiteral : LiteralValue → List ℕ → Type 0
SpellsLiteral v o = Body literal (literal_fields v) o

-- this is the first fault of octets that aren't a literal
abbrev pub LiteralFault : List ℕ → BodyFault → Type 0
LiteralFault o f = FirstFault (length o) literal o f

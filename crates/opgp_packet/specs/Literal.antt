-- The value of a literal, owned or borrowed: the fields at places in its body.
use Rattle.std.specs.Prelude.{ℕ, List, length}
use Rattle.std.proofs.Props.{props}
use Rattle.opgp_packet.specs.LiteralBody.{LiteralValue}
use Rattle.opgp_packet.specs.Parsed.{body_octets}
use Rattle.opgp_packet.specs.Spans.{octets_in, IsIn}
use Rattle.opgp_packet.specs.declared.literal.LiteralPlaces.{LiteralPlaces}
use Rattle.opgp_packet.specs.declared.parsed.Octets.{Ghosts as OctetsOf}
use Rattle.opgp_packet.specs.declared.parsed.Body.{Ghosts as BodyOf}
use Rattle.opgp_packet.specs.declared.parsed.Parsed.{Parsed}

abbrev pub literal_in : LiteralPlaces → List ℕ → LiteralValue
literal_in p o =
    record { format = p.format; name = octets_in p.name o; date = p.date; content = octets_in p.content o }

-- the name and the content are within the octets
abbrev pub LieIn : LiteralPlaces → List ℕ → Type 0
LieIn p o = IsIn p.name (length o) × IsIn p.content (length o)

pub LieIn-prop : (p : LiteralPlaces) (o : List ℕ) → IsProp (LieIn p o)
LieIn-prop p o = hlevel props

-- the literal
abbrev pub literal_value :
    {B : Type 0} {b : OctetsOf B} {f : BodyOf LiteralPlaces} → Parsed B LiteralPlaces b f
    → LiteralValue
literal_value l = literal_in l.places (body_octets l)

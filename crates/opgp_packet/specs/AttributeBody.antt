-- The body of a user attribute (RFC 9580, 5.12): an area of subpackets, perhaps none, to its end.
use Rattle.std.specs.Prelude.{ℕ, List, [], ◌∷◌, length}
use Rattle.opgp_octets.specs.declared.fault.BodyFault.{BodyFault}
use Rattle.opgp_packet.specs.Fields.{Field, subpackets, Grammar, done, area, to_end, Body, FirstFault}
use Rattle.opgp_packet.specs.Subpackets.{Sub}

abbrev pub attribute : Grammar
attribute = area to_end done

-- the fields that encode subpackets
abbrev pub attribute_fields : List Sub → List Field
attribute_fields subs = subpackets to_end subs ∷ []

-- the octets are the user attribute's, and nothing more
abbrev pub SpellsAttribute : List Sub → List ℕ → Type 0
SpellsAttribute subs o = Body attribute (attribute_fields subs) o

-- this is the first fault of octets that are no user attribute
abbrev pub AttributeFault : List ℕ → BodyFault → Type 0
AttributeFault o f = FirstFault (length o) attribute o f

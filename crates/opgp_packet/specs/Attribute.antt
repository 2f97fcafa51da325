-- The value of a user attribute, owned or borrowed.
use Rattle.std.specs.Prelude.{◌≡◌, ℕ, List, length, None}
use Rattle.std.proofs.Props.{props}
use Rattle.opgp_packet.specs.AreaReading.{fault_in, subs_in}
use Rattle.opgp_packet.specs.Parsed.{body_octets}
use Rattle.opgp_packet.specs.Subpackets.{Sub}
use Rattle.opgp_packet.specs.declared.attribute.AttributePlaces.{AttributePlaces}
use Rattle.opgp_packet.specs.declared.parsed.Octets.{Ghosts as OctetsOf}
use Rattle.opgp_packet.specs.declared.parsed.Body.{Ghosts as BodyOf}
use Rattle.opgp_packet.specs.declared.parsed.Parsed.{Parsed}

-- the octets are subpackets, to the end
abbrev pub IsWhole : AttributePlaces → List ℕ → Type 0
IsWhole p o = fault_in (length o) o ≡ None

pub IsWhole-prop : (p : AttributePlaces) (o : List ℕ) → IsProp (IsWhole p o)
IsWhole-prop p o = hlevel props

-- the user attribute: its subpackets
abbrev pub attribute_value :
    {B : Type 0} {b : OctetsOf B} {f : BodyOf AttributePlaces} → Parsed B AttributePlaces b f
    → List Sub
attribute_value a = subs_in (body_octets a)

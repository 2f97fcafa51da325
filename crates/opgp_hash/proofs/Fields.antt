-- The law of the crate of bodies that reopening rests on.
use Rattle.std.proofs.Common.{◌≡◌, ℕ, List, Ok}
use Rattle.std.specs.Prelude.{◌↔◌}
use Rattle.opgp_octets.specs.Octets.{IsOctets}
use Rattle.opgp_packet.specs.FieldReading.{body_at}
use Rattle.opgp_packet.specs.Fields.{Field, Grammar, Body}

-- fields are read of octets exactly where the octets are those fields, one after the other
abbrev pub FieldsLaw : Type 0
FieldsLaw = (grammar : Grammar) (fields : List Field) (o : List ℕ) → IsOctets o → (body_at grammar o ≡ Ok fields) ↔ Body grammar fields o

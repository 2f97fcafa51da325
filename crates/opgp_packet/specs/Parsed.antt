-- The value of a body that was read.
use Rattle.std.specs.Prelude.{ℕ, List}
use Rattle.opgp_packet.specs.Fields.{Field}
use Rattle.opgp_packet.specs.declared.parsed.Octets.{Ghosts as OctetsOf}
use Rattle.opgp_packet.specs.declared.parsed.Body.{Ghosts as BodyOf}
use Rattle.opgp_packet.specs.declared.parsed.Parsed.{Parsed}

-- the octets of its body
abbrev pub body_octets : {B F : Type 0} {b : OctetsOf B} {f : BodyOf F} → Parsed B F b f → List ℕ
body_octets {B} {F} {b} {f} p = b.octets p.body

-- the fields that they encode
abbrev pub body_fields :
    {B F : Type 0} {b : OctetsOf B} {f : BodyOf F} → Parsed B F b f → List Field
body_fields {B} {F} {b} {f} p = f.fields p.places (b.octets p.body)

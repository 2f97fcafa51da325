-- The value of a public key, owned or borrowed: the fields at places in its body.
use Rattle.std.specs.Prelude.{◌≡◌, ◌≤◌, ℕ, ◌-◌, List, ◌∷◌, length, ◌==◌, if◌then◌else◌}
use Rattle.std.proofs.Props.{props}
use Rattle.opgp_octets.specs.KeyAlgorithm.{key_algorithm_of}
use Rattle.opgp_packet.specs.Fields.{Field, small, wide}
use Rattle.opgp_packet.specs.KeyBody.{KeyValue}
use Rattle.opgp_packet.specs.KeyMaterial.{fields_in, shape, AreIn, AreIn-prop}
use Rattle.opgp_packet.specs.KeyShape.{shape_of, Shape-set}
use Rattle.opgp_packet.specs.Parsed.{body_octets}
use Rattle.opgp_packet.specs.declared.key.KeyPlaces.{KeyPlaces}
use Rattle.opgp_packet.specs.declared.parsed.Octets.{Ghosts as OctetsOf}
use Rattle.opgp_packet.specs.declared.parsed.Body.{Ghosts as BodyOf}
use Rattle.opgp_packet.specs.declared.parsed.Parsed.{Parsed}

abbrev pub key_in : KeyPlaces → List ℕ → KeyValue
key_in p o =
    record { version = p.version; created = p.created; algorithm = p.algorithm; material = fields_in p.material o }

-- the fields of a key whose body has this many octets: the count of version 6 is that of the octets
-- after it
abbrev pub fields_of_size : ℕ → KeyValue → List Field
fields_of_size total v =
    small v.version ∷ wide v.created ∷ small v.algorithm
    ∷ (if v.version == 6 then wide (total - 10) ∷ v.material else v.material)

-- the material lies in the octets and has its algorithm's form, and a body of version 4 has a
-- length of two octets
pub record KeyLies (p : KeyPlaces) (o : List ℕ) : Type 0 where
  pub material : AreIn p.material (length o)
  pub form : shape p.material ≡ shape_of (key_algorithm_of p.algorithm)
  pub short : p.version ≡ 4 → length o ≤ 65535

-- there is one proof of it at most
pub KeyLies-prop : (p : KeyPlaces) (o : List ℕ) → IsProp (KeyLies p o)
KeyLies-prop p o = hlevel (props, AreIn-prop, Shape-set)

-- the key
abbrev pub key_value :
    {B : Type 0} {b : OctetsOf B} {f : BodyOf KeyPlaces} → Parsed B KeyPlaces b f → KeyValue
key_value k = key_in k.places (body_octets k)

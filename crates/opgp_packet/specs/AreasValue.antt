-- The fields of signatures of versions 4 and 6 (RFC 9580, 5.2.3).
use Rattle.std.specs.Prelude.{◌≡◌, ℕ, List, ◌∷◌, length, None, ◌==◌, if◌then◌else◌}
use Rattle.std.proofs.Props.{props}
use Rattle.opgp_octets.specs.KeyAlgorithm.{key_algorithm_of}
use Rattle.opgp_packet.specs.declared.areas.AreaPlaces.{AreaPlaces}
use Rattle.opgp_packet.specs.declared.parsed.Octets.{Ghosts as OctetsOf}
use Rattle.opgp_packet.specs.declared.parsed.Body.{Ghosts as BodyOf}
use Rattle.opgp_packet.specs.declared.parsed.Parsed.{Parsed}
use Rattle.opgp_packet.specs.AreaReading.{fault_in, subs_in}
use Rattle.opgp_packet.specs.Fields.{Field, small, named, bare, subpackets, framed}
use Rattle.opgp_packet.specs.Parsed.{body_octets}
use Rattle.opgp_packet.specs.SignatureMaterial.{fields_in, shape, AreIn, AreIn-prop}
use Rattle.opgp_packet.specs.SignatureShape.{shape_of, Shape-set}
use Rattle.opgp_packet.specs.SignatureBody.{extent}
use Rattle.opgp_packet.specs.Spans.{octets_in, IsIn}

pub record AreasValue : Type 0 where
  pub version : ℕ
  pub kind : ℕ
  pub algorithm : ℕ
  pub hash : ℕ
  pub hashed : List ℕ
  pub unhashed : List ℕ
  pub left : List ℕ
  -- empty in version 4
  pub salt : List ℕ
  pub material : List Field

-- an area that is its subpackets, one after the other
abbrev pub IsSound : List ℕ → Type 0
IsSound area = fault_in (length area) area ≡ None

abbrev pub areas_fields : AreasValue → List Field
areas_fields v =
    small v.version ∷ small v.kind ∷ small v.algorithm ∷ small v.hash
    ∷ subpackets (extent v.version) (subs_in v.hashed)
    ∷ subpackets (extent v.version) (subs_in v.unhashed)
    ∷ bare v.left ∷ (if v.version == 6 then named v.salt ∷ v.material else v.material)

-- the part of its body that a signature hashes: from its version to the end of the hashed area
-- (5.2.4)
abbrev pub front_of : AreasValue → List ℕ
front_of v = v.version ∷ v.kind ∷ v.algorithm ∷ v.hash ∷ framed (extent v.version) v.hashed

-- the signature whose fields lie at places in a body
abbrev pub areas_in : {V : ℕ} → AreaPlaces V → List ℕ → AreasValue
areas_in {V} p o = record {
  version = V;
  kind = p.kind;
  algorithm = p.algorithm;
  hash = p.hash;
  hashed = octets_in p.hashed o;
  unhashed = octets_in p.unhashed o;
  left = p.left;
  salt = octets_in p.salt o;
  material = fields_in p.material o;
}

-- where the hashed area begins: after four octets and its length
abbrev pub hashed_start : ℕ → ℕ
hashed_start v = if v == 6 then 8 else 6

-- the places are within the octets, the areas there have no fault, and the material has its
-- algorithm's form
pub record AreasLie {V : ℕ} (p : AreaPlaces V) (o : List ℕ) : Type 0 where
  pub first : p.hashed.start ≡ hashed_start V
  pub hashed : IsIn p.hashed (length o)
  pub unhashed : IsIn p.unhashed (length o)
  pub salt : IsIn p.salt (length o)
  pub material : AreIn p.material (length o)
  pub hashed_sound : IsSound (octets_in p.hashed o)
  pub unhashed_sound : IsSound (octets_in p.unhashed o)
  pub shape : shape p.material ≡ shape_of (key_algorithm_of p.algorithm)

-- there is one proof of it at most
pub AreasLie-prop : {V : ℕ} (p : AreaPlaces V) (o : List ℕ) → IsProp (AreasLie p o)
AreasLie-prop p o = hlevel (props, AreIn-prop, Shape-set)

-- the signature that is read
abbrev pub areas_value : {B : Type 0} {V : ℕ} {b : OctetsOf B} {f : BodyOf (AreaPlaces V)}
    → Parsed B (AreaPlaces V) b f → AreasValue
areas_value s = areas_in s.places (body_octets s)

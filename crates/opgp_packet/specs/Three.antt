-- The fields of signatures of version 3 (RFC 9580, 5.2.2).
use Rattle.std.specs.Prelude.{◌≡◌, ℕ, List, ◌∷◌, length}
use Rattle.std.proofs.Props.{props}
use Rattle.opgp_octets.specs.KeyAlgorithm.{key_algorithm_of}
use Rattle.opgp_packet.specs.declared.parsed.Octets.{Ghosts as OctetsOf}
use Rattle.opgp_packet.specs.declared.parsed.Body.{Ghosts as BodyOf}
use Rattle.opgp_packet.specs.declared.parsed.Parsed.{Parsed}
use Rattle.opgp_packet.specs.declared.three.ThreePlaces.{ThreePlaces}
use Rattle.opgp_packet.specs.Fields.{Field, small, wide, bare}
use Rattle.opgp_packet.specs.Parsed.{body_octets}
use Rattle.opgp_packet.specs.SignatureMaterial.{fields_in, shape, AreIn, AreIn-prop}
use Rattle.opgp_packet.specs.SignatureShape.{shape_of, Shape-set}

pub record ThreeValue : Type 0 where
  pub kind : ℕ
  pub created : ℕ
  pub issuer : List ℕ
  pub algorithm : ℕ
  pub hash : ℕ
  pub left : List ℕ
  pub material : List Field

abbrev pub three_fields : ThreeValue → List Field
three_fields v =
    small 3 ∷ small 5 ∷ small v.kind ∷ wide v.created ∷ bare v.issuer
    ∷ small v.algorithm ∷ small v.hash ∷ bare v.left ∷ v.material

-- the signature whose fields lie at places in a body
abbrev pub three_in : ThreePlaces → List ℕ → ThreeValue
three_in p o = record {
  kind = p.kind;
  created = p.created;
  issuer = p.issuer;
  algorithm = p.algorithm;
  hash = p.hash;
  left = p.left;
  material = fields_in p.material o;
}

-- its material lies in the octets, and has the form of its algorithm
abbrev pub ThreeLies : ThreePlaces → List ℕ → Type 0
ThreeLies p o =
    AreIn p.material (length o) × (shape p.material ≡ shape_of (key_algorithm_of p.algorithm))

-- there is one proof of it at most
pub ThreeLies-prop : (p : ThreePlaces) (o : List ℕ) → IsProp (ThreeLies p o)
ThreeLies-prop p o = hlevel (props, AreIn-prop, Shape-set)

-- the signature that is read
abbrev pub three_value : {B : Type 0} {b : OctetsOf B} {f : BodyOf ThreePlaces}
    → Parsed B ThreePlaces b f → ThreeValue
three_value s = three_in s.places (body_octets s)

-- The fields that a signature hashes (RFC 9580, 5.2.3, 5.2.4).
use Rattle.std.specs.Prelude.{◌≡◌, ℕ, List, [], ◌∷◌, ◌++◌, Option, Some, None, unwrap_or}
use Rattle.std.specs.List.{slice_get}
use Rattle.opgp_packet.specs.Fields.{Field, small, wide, integer, named, bare, subpackets, amount}
use Rattle.opgp_packet.specs.Subpackets.{subs_octets}
use Rattle.opgp_packet.specs.SignatureBody.{SignatureValue, of_three, of_four, of_six, of_other}
use Rattle.opgp_hash.specs.Hashed.{area_hashed}

pub record SignedValue : Type 0 where
  pub version : ℕ
  pub salt : List ℕ
  pub kind : ℕ
  pub algorithm : ℕ
  pub hash : ℕ
  pub area : List ℕ

-- the octets of an area's subpackets, and those of a salt
abbrev pub area_of : Field → List ℕ
area_of (small n) = []
area_of (wide n) = []
area_of (integer m) = []
area_of (named o) = []
area_of (bare o) = []
area_of (subpackets extent subs) = subs_octets subs

abbrev pub salt_of : Field → List ℕ
salt_of (small n) = []
salt_of (wide n) = []
salt_of (integer m) = []
salt_of (named o) = o
salt_of (bare o) = []
salt_of (subpackets extent subs) = []

-- the field at this position
abbrev pub field_at : List Field → ℕ → Field
field_at fields i = unwrap_or (slice_get fields i) (small 0)

-- in versions 4 and 6 the version is followed by the type, the algorithms for the key and for the
-- hash, and the hashed area; in version 6 the salt comes after the unhashed area and the left 16
-- bits of the hash
abbrev pub signed_of : SignatureValue → Option SignedValue
signed_of (of_three fields) = None
signed_of (of_four fields) = Some (record {
  version = 4;
  salt = [];
  kind = amount (field_at fields 1);
  algorithm = amount (field_at fields 2);
  hash = amount (field_at fields 3);
  area = area_of (field_at fields 4);
})
signed_of (of_six fields) = Some (record {
  version = 6;
  salt = salt_of (field_at fields 7);
  kind = amount (field_at fields 1);
  algorithm = amount (field_at fields 2);
  hash = amount (field_at fields 3);
  area = area_of (field_at fields 4);
})
signed_of (of_other octets) = None

-- the signature's body up to the end of the hashed area
abbrev pub signed_front : SignedValue → List ℕ
signed_front s = (s.version ∷ s.kind ∷ s.algorithm ∷ s.hash ∷ []) ++ area_hashed s.version s.area

-- the octets begin with these
abbrev pub BeginsWith : List ℕ → List ℕ → Type 0
BeginsWith o front = (rest : List ℕ) × (o ≡ front ++ rest)

-- The first key of a list with a fingerprint or a key ID.
use Rattle.std.specs.Prelude.{◌≡◌, ℕ, Bool, ◌&&◌, List, length, Option, Some, None, position}
use Rattle.std.specs.Prelude.{◌==◌, if◌then◌else◌}
use Rattle.std.specs.BTreeMap.{BTreeMap, get}
use Rattle.std.specs.Cmp.Lexicographic.{slice_cmp}
use Rattle.std.specs.Int.{w64, from_be_bytes}
use Rattle.std.specs.List.{position_from}
use Rattle.std.specs.Ordering.{nat_cmp}
use Rattle.std.specs.Str.{bytes_eq}
use Rattle.opgp_octets.specs.Octets.{IsOctets}
use Rattle.opgp_hash.specs.Fingerprint.{fingerprint_of}
use Rattle.opgp_hash.specs.KeyId.{id_of}
use Rattle.opgp_hash.specs.SubjectValue.{version_of}
use Rattle.opgp_hash.specs.declared.fingerprints.Fingerprint.{Fingerprint}
use Rattle.opgp_hash.specs.declared.fingerprints.Fingerprint.TheVariants.{Four, Six}

-- the fingerprint of the key with this body
abbrev pub print_of : List ℕ → Fingerprint
print_of body = fingerprint_of (version_of body) body

-- the key of this fingerprint has this key ID
abbrev pub has_id : List ℕ → Fingerprint → Bool
has_id id print = bytes_eq (id_of print) id

-- it is of this version, and its fingerprint has these octets
abbrev pub has_print : ℕ → List ℕ → Fingerprint → Bool
has_print version octets (Four o) = (version == 4) && bytes_eq o octets
has_print version octets (Six o) = (version == 6) && bytes_eq o octets

-- the place of the first key with this key ID, or with this version and fingerprint
abbrev pub first_by_id : List ℕ → List Fingerprint → Option ℕ
first_by_id id prints = position (has_id id) prints

abbrev pub first_by_print : ℕ → List ℕ → List Fingerprint → Option ℕ
first_by_print version octets prints = position (has_print version octets) prints

-- ---- what an index keeps
-- a fingerprint has the size of its version
abbrev pub is_sized : Fingerprint → Bool
is_sized (Four o) = length o == 20
is_sized (Six o) = length o == 32

-- the place that is kept, or else this one if the test is true
abbrev pub first_or : Option ℕ → Bool → ℕ → Option ℕ
first_or (Some n) test at = Some n
first_or None test at = if test then Some at else None

-- the map has, for each sequence of octets, the place of the first that passes its test
abbrev pub HasFirsts : BTreeMap (List ℕ) ℕ → (List ℕ → Fingerprint → Bool) → List Fingerprint
    → Type 0
HasFirsts m test prints = (o : List ℕ)
    → get (slice_cmp nat_cmp) m o ≡ position_from (test o) 0 prints

-- eight octets, the size of a key ID
abbrev pub IsId : List ℕ → Type 0
IsId o = (length o ≡ 8) × IsOctets o

-- the map has, for the number of each key ID, the place of the first key with this key ID
abbrev pub HasFirstIds : BTreeMap ℕ ℕ → List Fingerprint → Type 0
HasFirstIds m prints = (o : List ℕ) → IsId o
    → get nat_cmp m (from_be_bytes w64 o) ≡ position_from (has_id o) 0 prints

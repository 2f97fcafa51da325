-- Which hash algorithms and keys are relied on (RFC 9580, 9.5, 12.4).
use Rattle.std.specs.Prelude.{ℕ, nat_le, nat_lt, Bool, true, false, ◌&&◌, ◌||◌, ◌==◌, ◌/◌, min}
use Rattle.std.specs.Prelude.{if◌then◌else◌, List, [], ◌∷◌, length, drop, Result, Ok, Err}
use Rattle.std.specs.Prelude.{Option, Some, None}
use Rattle.opgp_octets.specs.HashAlgorithm.{hash_algorithm_of}
use Rattle.opgp_octets.specs.KeyAlgorithm.{key_algorithm_of}
use Rattle.opgp_octets.specs.declared.fault.BodyFault.{BodyFault}
use Rattle.opgp_octets.specs.declared.hash_algorithm.HashAlgorithm.{HashAlgorithm}
use Rattle.opgp_octets.specs.declared.hash_algorithm.HashAlgorithm.TheVariants as hashes
use Rattle.opgp_packet.specs.FieldReading.{body_at}
use Rattle.opgp_packet.specs.Fields.{Field, amount, integer}
use Rattle.opgp_packet.specs.KeyBody.{key}
use Rattle.opgp_packet.specs.KeyShape.{Shape, rsa, dsa, ecdsa, eddsa, ed25519, ed448, shape_of}
use Rattle.opgp_hash.specs.SignedValue.{field_at}
use Rattle.opgp_valid.specs.declared.policy.Policy.{Policy}
use Rattle.opgp_valid.specs.declared.policy.Policy.TheVariants.{Usual, Any}

-- ---- hashes
-- how many octets the digest of one has that is relied on: not of MD5, SHA-1 and RIPEMD-160 (9.5)
abbrev pub relied_size : HashAlgorithm → Option ℕ
relied_size hashes.Sha224 = Some 28
relied_size hashes.Sha256 = Some 32
relied_size hashes.Sha384 = Some 48
relied_size hashes.Sha512 = Some 64
relied_size hashes.Sha3_256 = Some 32
relied_size hashes.Sha3_512 = Some 64
relied_size other = None

abbrev pub is_as_long : ℕ → Option ℕ → Bool
is_as_long least None = false
is_as_long least (Some size) = nat_le least size

-- on a signature with this hash algorithm by a key that is strong or isn't, and asks for a digest
-- of so many octets at least
abbrev pub relies_on : Policy → ℕ → Bool → ℕ → Bool
relies_on Any hash is_strong least = true
relies_on Usual hash is_strong least =
    is_strong && is_as_long least (relied_size (hash_algorithm_of hash))

-- ---- keys
-- an integer without the zeros in front of it
abbrev pub without_zeros : List ℕ → List ℕ
without_zeros [] = []
without_zeros (n ∷ o) = if n == 0 then without_zeros o else n ∷ o

-- the highest bit of this many octets, or a higher one, is set
abbrev pub fills_first : ℕ → List ℕ → Bool
fills_first size [] = false
fills_first size (n ∷ o) =
    nat_lt size (length (n ∷ o)) || ((length (n ∷ o) == size) && nat_le 128 n)

abbrev pub fills : ℕ → List ℕ → Bool
fills size o = fills_first size (without_zeros o)

-- RSA of 2048 bits or more, DSA of 2048 and 224, an ECDSA point of twice 28 octets behind its
-- first; of other forms all (12.4)
abbrev pub is_strong_material : Shape → List Field → Bool
is_strong_material rsa (integer n ∷ fields) = fills 256 n.octets
is_strong_material dsa (integer p ∷ integer q ∷ fields) = fills 256 p.octets && fills 28 q.octets
is_strong_material ecdsa (oid ∷ integer point ∷ fields) = nat_le 57 (length point.octets)
is_strong_material shape fields = true

-- how many octets the digest has at least that a key of this form signs: as many as q of DSA, or as
-- an integer of the curve of ECDSA, where 64 are enough (5.2.3.2); 32 for Ed25519 (5.2.3.3,
-- 5.2.3.4), 64 for Ed448 (5.2.3.5)
abbrev pub least_of_material : Shape → List Field → ℕ
least_of_material dsa (integer p ∷ integer q ∷ fields) = length (without_zeros q.octets)
least_of_material ecdsa (oid ∷ integer point ∷ fields) = min 64 (length point.octets / 2)
least_of_material eddsa fields = 32
least_of_material ed25519 fields = 32
least_of_material ed448 fields = 64
least_of_material shape fields = 0

-- ---- the key of a body (5.5.2): version, creation time, algorithm, in version 6 a count, material
abbrev pub fields_read : Result (List Field) BodyFault → List Field
fields_read (Ok fields) = fields
fields_read (Err fault) = []

abbrev pub fields_of : List ℕ → List Field
fields_of body = fields_read (body_at key body)

abbrev pub version_of : List ℕ → ℕ
version_of body = amount (field_at (fields_of body) 0)

abbrev pub created_of : List ℕ → ℕ
created_of body = amount (field_at (fields_of body) 1)

abbrev pub shape_in : List ℕ → Shape
shape_in body = shape_of (key_algorithm_of (amount (field_at (fields_of body) 2)))

abbrev pub material_of : List ℕ → List Field
material_of body = drop (if version_of body == 6 then 4 else 3) (fields_of body)

abbrev pub is_strong : List ℕ → Bool
is_strong body = is_strong_material (shape_in body) (material_of body)

abbrev pub least_digest : List ℕ → ℕ
least_digest body = least_of_material (shape_in body) (material_of body)

-- The body of a signature (RFC 9580, 5.2.2, 5.2.3), as the tables of its fields in each version.
use Rattle.std.specs.Prelude.{◌≡◌, ℕ, Bool, false, ◌==◌, ◌⊎◌, if◌then◌else◌, List, [], ◌∷◌}
use Rattle.std.specs.Prelude.{length, Option, Some, None, Result, Ok, Err}
use Rattle.opgp_octets.specs.declared.fault.Reason.TheVariants.{Short, SaltSize}
use Rattle.opgp_octets.specs.declared.fault.BodyFault.{BodyFault}
use Rattle.opgp_octets.specs.HashAlgorithm.{hash_algorithm_of, salt_size}
use Rattle.opgp_octets.specs.KeyAlgorithm.{key_algorithm_of}
use Rattle.opgp_octets.specs.Reading.{◌>>=◌}
use Rattle.opgp_packet.specs.Fields.{Kind, octet, exact, four, mpi, sized, fixed, whole, never}
use Rattle.opgp_packet.specs.Fields.{Extent, behind_two, behind_four}
use Rattle.opgp_packet.specs.Fields.{Field, Grammar, field, area, sequence, amount, Body, fault_at}
use Rattle.opgp_packet.specs.Fields.{FirstFault}
use Rattle.opgp_packet.specs.FieldReading.{body_at}
use Rattle.opgp_packet.specs.SignatureShape.{Shape, rsa, dsa, ecdsa, eddsa, ed25519, ed448, opaque, shape_of}

-- the algorithm-specific fields of each form, their integers strict or not (5.2.3.1 to 5.2.3.5)
abbrev pub material_kinds : Bool → Shape → List Kind
material_kinds strict rsa = mpi strict ∷ []
material_kinds strict dsa = mpi strict ∷ mpi strict ∷ []
material_kinds strict ecdsa = mpi strict ∷ mpi strict ∷ []
material_kinds strict eddsa = mpi strict ∷ mpi strict ∷ []
material_kinds strict ed25519 = fixed 64 ∷ []
material_kinds strict ed448 = fixed 114 ∷ []
material_kinds strict opaque = whole ∷ []

-- in version 3 only RSA and DSA are supported (5.2.2)
abbrev pub old_material_kinds : Shape → List Kind
old_material_kinds rsa = mpi false ∷ []
old_material_kinds dsa = mpi false ∷ mpi false ∷ []
old_material_kinds other = never ∷ []

-- a salt of this size; of any size if none is known
abbrev pub salt_of_size : Option ℕ → Kind
salt_of_size (Some n) = sized SaltSize n n
salt_of_size None = sized SaltSize 0 255

abbrev pub salt_of : ℕ → Kind
salt_of h = salt_of_size (salt_size (hash_algorithm_of h))

-- version, length of the hashed part, type, creation time, issuer, key algorithm, hash algorithm,
-- left 16 bits of the hash, material
unfoldable pub version_three : Grammar
version_three =
    field (exact Short 3)
    (λ _. field (exact Short 5) (λ _. field octet (λ _. field four (λ _. field (fixed 8) (λ _.
    field octet (λ a. field octet (λ _. field (fixed 2) (λ _.
    sequence (old_material_kinds (shape_of (key_algorithm_of (amount a))))))))))))

-- the lengths of areas have two octets in version 4, four in version 6
abbrev pub extent : ℕ → Extent
extent v = if v == 6 then behind_four else behind_two

-- in version 6 a salt
abbrev pub salted : ℕ → ℕ → Grammar → Grammar
salted v h next = if v == 6 then field (salt_of h) (λ _. next) else next

-- version, type, key algorithm, hash algorithm, hashed area, unhashed area, left 16 bits of the
-- hash, in version 6 a salt, then the material, whose integers are strict in version 6
unfoldable pub with_areas : ℕ → Grammar
with_areas v =
    field (exact Short v) (λ _. field octet (λ _. field octet (λ a. field octet (λ h.
    area (extent v) (area (extent v) (field (fixed 2) (λ _.
    salted v (amount h)
    (sequence (material_kinds (v == 6) (shape_of (key_algorithm_of (amount a))))))))))))

abbrev pub version_four : Grammar
version_four = with_areas 4

abbrev pub version_six : Grammar
version_six = with_areas 6

-- a signature: the fields of its version, or the octets as they are
pub data SignatureValue : Type 0 where
  of_three : List Field → SignatureValue
  of_four : List Field → SignatureValue
  of_six : List Field → SignatureValue
  of_other : List ℕ → SignatureValue

-- a body of another version, or one of version 3 that isn't parsed
abbrev pub IsOther : List ℕ → Type 0
IsOther [] = ⊥
IsOther (v ∷ o) =
    (v ≡ 4 → ⊥) × (v ≡ 6 → ⊥) × ((fields : List Field) → Body version_three fields (v ∷ o) → ⊥)

-- the octets are the signature, and nothing more
abbrev pub Spells : SignatureValue → List ℕ → Type 0
Spells (of_three fields) o = Body version_three fields o
Spells (of_four fields) o = Body version_four fields o
Spells (of_six fields) o = Body version_six fields o
Spells (of_other octets) o = (o ≡ octets) × IsOther o

-- There is no version, or in version 4 or 6 some fields begin the octets and the next one can't be
-- read there.
abbrev pub SignatureFault : List ℕ → BodyFault → Type 0
SignatureFault [] f = f ≡ fault_at 0 0 Short
SignatureFault (v ∷ o) f =
    ((v ≡ 4) × FirstFault (length (v ∷ o)) version_four (v ∷ o) f)
    ⊎ ((v ≡ 6) × FirstFault (length (v ∷ o)) version_six (v ∷ o) f)

-- ---- reading

abbrev pub three_or_other : List ℕ → Result (List Field) BodyFault → Result SignatureValue BodyFault
three_or_other o (Ok fields) = Ok (of_three fields)
three_or_other o (Err f) = Ok (of_other o)

abbrev pub by_version : ℕ → List ℕ → Result SignatureValue BodyFault
by_version v o =
    if v == 4 then (body_at version_four o >>= λ x. Ok (of_four x))
    else (if v == 6 then (body_at version_six o >>= λ x. Ok (of_six x))
    else (if v == 3 then three_or_other o (body_at version_three o)
    else Ok (of_other o)))

-- the signature of a body, or its first fault
unfoldable pub signature_at : List ℕ → Result SignatureValue BodyFault
signature_at [] = Err (fault_at 0 0 Short)
signature_at (v ∷ o) = by_version v (v ∷ o)

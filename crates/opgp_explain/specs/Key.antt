-- A key as a signature hashes it, field by field (RFC 9580, 5.2.4, 5.5.2).
use Rattle.std.specs.Prelude.{ℕ, List, [], ◌∷◌, ◌++◌, length, take, drop, ◌==◌, if◌then◌else◌}
use Rattle.std.specs.Int.{w16, w32, to_be_bytes}
use Rattle.opgp_explain.specs.Field.{FieldValue, ◌is◌}
use Rattle.opgp_explain.specs.declared.meaning.Meaning.TheVariants as meaning
use Rattle.opgp_explain.specs.declared.meaning.Role.{Role}
use Rattle.opgp_explain.specs.declared.meaning.KeyPart.{KeyPart}
use Rattle.opgp_explain.specs.declared.meaning.KeyPart.TheVariants as key

-- The body of a key: a version of one octet, a creation time of four, an algorithm of one, in
-- version 6 a count of four for the material; then the material (5.5.2.2, 5.5.2.3).
abbrev pub key_sizes : ℕ → List (KeyPart × ℕ)
key_sizes version =
    if version == 4 then (key.Version, 1) ∷ (key.Created, 4) ∷ (key.Algorithm, 1) ∷ []
    else (key.Version, 1) ∷ (key.Created, 4) ∷ (key.Algorithm, 1) ∷ (key.MaterialLength, 4) ∷ []

-- parts of these sizes, and then the material
abbrev pub cut : Role → List (KeyPart × ℕ) → List ℕ → List FieldValue
cut role [] o = (meaning.Key role key.Material is o) ∷ []
cut role (x ∷ sizes) o = (meaning.Key role x.0 is take x.1 o) ∷ cut role sizes (drop x.1 o)

-- In front of it come 99 and its length in two octets, or in version 6 9B and its length in four.
abbrev pub key_front : Role → ℕ → List ℕ → List FieldValue
key_front role version body =
    if version == 4
    then (meaning.Key role key.Prefix is (0x99 ∷ []))
    ∷ (meaning.Key role key.Length is to_be_bytes w16 (length body)) ∷ []
    else (meaning.Key role key.Prefix is (0x9B ∷ []))
    ∷ (meaning.Key role key.Length is to_be_bytes w32 (length body)) ∷ []

abbrev pub key_fields : Role → ℕ → List ℕ → List FieldValue
key_fields role version body = key_front role version body ++ cut role (key_sizes version) body

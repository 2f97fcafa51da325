-- Version 3 knows RSA and DSA alone.
use Rattle.std.proofs.Common.{◌≡◌, ◌⊎◌, ℕ, List, [], ◌∷◌, refl, inl, inr}
use Rattle.opgp_octets.specs.declared.key_algorithm.KeyAlgorithm.{KeyAlgorithm}
use Rattle.opgp_octets.specs.declared.key_algorithm.KeyAlgorithm.TheVariants as key
use Rattle.opgp_octets.specs.KeyAlgorithm.{key_algorithm_of, key_algorithm_number}
use Rattle.opgp_packet.specs.Fields.{Field, small, never, sequence, Follows, Body}
use Rattle.opgp_packet.specs.SignatureShape.{shape_of}
use Rattle.opgp_packet.specs.SignatureBody.{old_material_kinds, version_three}
use Rattle.opgp_packet.specs.Three.{ThreeValue, three_fields}

none : (fields : List Field) (after : ℕ) → Follows (sequence (never ∷ [])) fields after → ⊥
none [] after h = h
none (small n ∷ fs) after h = h.0
none (f ∷ fs) after h = h.0

IsKnown : ℕ → Type 0
IsKnown n = (n ≡ 1) ⊎ ((n ≡ 3) ⊎ (n ≡ 17))

known : (a : KeyAlgorithm) (fields : List Field) (after : ℕ) → Follows (sequence (old_material_kinds (shape_of a))) fields after → IsKnown (key_algorithm_number a)
unfolding IsKnown
known key.Rsa fields after h = inl refl
known key.RsaSign fields after h = inr (inl refl)
known key.Dsa fields after h = inr (inr refl)
known other fields after h = absurd (none fields after h)

pub algorithm_known : (v : ThreeValue) (o : List ℕ) → Body version_three (three_fields v) o → key_algorithm_number (key_algorithm_of v.algorithm) ≡ v.algorithm
    → (v.algorithm ≡ 1) ⊎ ((v.algorithm ≡ 3) ⊎ (v.algorithm ≡ 17))
unfolding version_three IsKnown
algorithm_known v o b number =
    let k : IsKnown (key_algorithm_number (key_algorithm_of v.algorithm)) = known (key_algorithm_of v.algorithm) v.material 0 b.follows.1.1.1.1.1.1.1.1 in
    rw number at k

-- No type of signature is about two sorts of subject.
use Rattle.std.proofs.Common.{◌≡◌, ℕ, true, inl, inr}
use Rattle.std.proofs.lemmas.Bool.{or_cases, eqb-true}
use Rattle.opgp_hash.specs.SubjectValue.{is_certification, is_on_key, is_on_subkey}

-- what holds of each type that is about a key
pub each_on_key : (P : ℕ → Type 0) (kind : ℕ) → is_on_key kind ≡ true → P 0x1F → P 0x20 → P kind
each_on_key P kind e a b = elim (or_cases _ _ e) [ inl p ↦ rw (eqb-true kind 0x1F p) a | inr p ↦ rw (eqb-true kind 0x20 p) b ]

pub each_on_subkey : (P : ℕ → Type 0) (kind : ℕ) → is_on_subkey kind ≡ true → P 0x18 → P 0x19 → P 0x28 → P kind
each_on_subkey P kind e a b d =
    elim (or_cases _ _ e) [
      | inl p ↦ rw (eqb-true kind 0x18 p) a
      | inr q ↦ elim (or_cases _ _ q) [ inl p ↦ rw (eqb-true kind 0x19 p) b | inr p ↦ rw (eqb-true kind 0x28 p) d ]
    ]

pub each_certification : (P : ℕ → Type 0) (kind : ℕ) → is_certification kind ≡ true → P 0x10 → P 0x11 → P 0x12 → P 0x13 → P 0x30 → P kind
each_certification P kind e a b d f g =
    elim (or_cases _ _ e) [
      | inl p ↦ rw (eqb-true kind 0x10 p) a
      | inr q ↦ elim (or_cases _ _ q) [
        | inl p ↦ rw (eqb-true kind 0x11 p) b
        | inr r ↦ elim (or_cases _ _ r) [
          | inl p ↦ rw (eqb-true kind 0x12 p) d
          | inr s ↦ elim (or_cases _ _ s) [ inl p ↦ rw (eqb-true kind 0x13 p) f | inr p ↦ rw (eqb-true kind 0x30 p) g ]
        ]
      ]
    ]

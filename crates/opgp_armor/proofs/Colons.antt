-- The first colon, by its place.
use Rattle.std.proofs.Common.{◌≡◌, ℕ, zero, suc, ◌+◌, ◌-◌, ◌<◌, true, List, [], ◌∷◌, length, take, drop, slice_index, refl, sym, ap, ◌∙◌, arith, inl, inr, None, Some}
use Rattle.std.proofs.lemmas.List.{take_rest}
use Rattle.std.proofs.lemmas.Bool.{cases_Bool}
use Rattle.opgp_armor.specs.Armored.{is_colon}
use Rattle.opgp_armor.specs.Machine.{at_colon, named, header_of, without_space}
use Rattle.opgp_armor.proofs.HeaderLines.{named_is}

colon_first : (c : List ℕ) (i : ℕ) → i < length c → ((k : ℕ) → k < i → is_colon (slice_index c k) ≡ true → ⊥) → is_colon (slice_index c i) ≡ true → at_colon c ≡ Some (take i c, drop (suc i) c)
unfolding at_colon
colon_first [] i lt none found = absurd (omega arith)
colon_first (x ∷ c) zero lt none found = rw found refl
colon_first (x ∷ c) (suc i) lt none found = elim (cases_Bool (is_colon x)) [
  | inl y ↦ absurd (none 0 (omega arith) y)
  | inr n ↦ rw (n, colon_first c i (omega arith) (λ k l e. none (suc k) (omega arith) e) found) refl
]

colon_none : (c : List ℕ) → ((k : ℕ) → k < length c → is_colon (slice_index c k) ≡ true → ⊥) → at_colon c ≡ None
unfolding at_colon
colon_none [] none = refl
colon_none (x ∷ c) none = elim (cases_Bool (is_colon x)) [
  | inl y ↦ absurd (none 0 (omega arith) y)
  | inr n ↦ rw (n, colon_none c (λ k l e. none (suc k) (omega arith) e)) refl
]

pub header_none : (c : List ℕ) → ((k : ℕ) → k < length c → is_colon (slice_index c k) ≡ true → ⊥) → None ≡ header_of c
header_none c none = sym (ap named (colon_none c none))

pub header_empty : (c : List ℕ) (i : ℕ) → i ≡ 0 → i < length c → is_colon (slice_index c i) ≡ true → None ≡ header_of c
header_empty c i z lt found = sym (ap named (colon_first c i lt (λ k l e. absurd (omega arith)) found) ∙ ap (λ (v : ℕ). named (Some (take v c, drop (suc i) c))) z)

long_take : (i : ℕ) (c : List ℕ) → (i ≡ 0 → ⊥) → i < length c → 0 < length (take i c)
long_take zero c n lt = absurd (n refl)
long_take (suc i) [] n lt = absurd (omega arith)
long_take (suc i) (x ∷ c) n lt = omega arith

pub header_some : (c value : List ℕ) (i : ℕ) → (i ≡ 0 → ⊥) → i < length c → ((k : ℕ) → k < i → is_colon (slice_index c k) ≡ true → ⊥) → is_colon (slice_index c i) ≡ true
    → value ≡ without_space (take (length c - (i + 1)) (drop (i + 1) c)) → Some (take i c, value) ≡ header_of c
header_some c value i n lt none found is =
    let e : i + 1 ≡ suc i = omega arith in
    let tail : value ≡ without_space (drop (suc i) c) = is ∙ ap without_space (take_rest c (i + 1)) ∙ ap (λ (v : ℕ). without_space (drop v c)) e in
    ap (λ (v : List ℕ). Some (take i c, v)) tail ∙ sym (ap named (colon_first c i lt none found) ∙ named_is (take i c) (drop (suc i) c) (long_take i c n lt))

-- Header lines, both ways.
use Rattle.std.proofs.Common.{◌≡◌, ℕ, ◌<◌, false, List, [], ◌∷◌, ◌++◌, length, refl, sym, ap, ◌∙◌, arith, inl, inr, ◌⊎◌, Option, None, Some}
use Rattle.std.proofs.lemmas.Bool.{cases_Bool, eqb-true}
use Rattle.std.specs.List.{list_any}
use Rattle.opgp_armor.specs.Text.{Line, content}
use Rattle.opgp_armor.specs.Machine.{at_colon, put_key, named, header_of, without_space}
use Rattle.opgp_armor.specs.Armored.{IsHeader, is_colon, is_space, begins_with}
use Rattle.opgp_armor.proofs.DataLine.{or_false}

-- `cc` doesn't look into a pair
pub some_pair : {X Y : Type 0} (a c : X) (b d : Y) → ◌≡◌ {A = Option (X × Y)} (Some (a, b)) (Some (c, d)) → (a ≡ c) × (b ≡ d)
some_pair {X} {Y} a c b d h =
    let e : ◌≡◌ {A = X × Y} (a, b) (c, d) = cc in
    (ap (λ (p : X × Y). p.0) e, ap (λ (p : X × Y). p.1) e)

put_some : (c : ℕ) (o : Option (List ℕ × List ℕ)) (k v : List ℕ) → put_key c o ≡ Some (k, v) → (key : List ℕ) × (o ≡ Some (key, v)) × (k ≡ c ∷ key)
put_some c None k v h = cc h
put_some c (Some (key, value)) k v h = let p = some_pair (c ∷ key) k value v h in (key, ap (λ (w : List ℕ). Some (key, w)) p.1, sym p.0)

pub at_colon_some : (c k v : List ℕ) → at_colon c ≡ Some (k, v) → (c ≡ k ++ 58 ∷ v) × (list_any is_colon k ≡ false)
unfolding at_colon
at_colon_some [] k v h = cc h
at_colon_some (x ∷ c) k v h = elim (cases_Bool (is_colon x)) [
  | inl y ↦
      let e : Some ([], c) ≡ Some (k, v) = rw y at h in
      let p = some_pair [] k c v e in
      rw (← p.0, ← p.1, eqb-true x 58 y) (refl, refl)
  | inr n ↦
      let p = put_some x (at_colon c) k v (rw n at h) in
      let more = at_colon_some c p.0 v p.1 in
      rw p.2 (ap (λ (w : List ℕ). x ∷ w) more.0, rw n more.1)
]

pub at_colon_is : (k v : List ℕ) → list_any is_colon k ≡ false → at_colon (k ++ 58 ∷ v) ≡ Some (k, v)
unfolding at_colon
at_colon_is [] v h = refl
at_colon_is (x ∷ k) v h =
    let p = or_false (is_colon x) (list_any is_colon k) h in
    rw (p.0, at_colon_is k v p.1) refl

space_cases : (w : List ℕ) → ((w ≡ without_space w) × (begins_with is_space (without_space w) ≡ false)) ⊎ (w ≡ 32 ∷ without_space w)
space_cases [] = inl (refl, refl)
space_cases (c ∷ w) = elim (cases_Bool (is_space c)) [
  | inl y ↦ inr (rw (y, eqb-true c 32 y) refl)
  | inr n ↦ inl (rw n refl, rw (n) n)
]

pub record Header (c key value : List ℕ) : Type 0 where
  pub named_ : 0 < length key
  pub plain : list_any is_colon key ≡ false
  pub spelled : ((c ≡ key ++ 58 ∷ value) × (begins_with is_space value ≡ false)) ⊎ (c ≡ key ++ 58 ∷ 32 ∷ value)

named_some : (o : Option (List ℕ × List ℕ)) (k v : List ℕ) → named o ≡ Some (k, v) → (w : List ℕ) × (o ≡ Some (k, w)) × (v ≡ without_space w) × (0 < length k)
named_some None k v h = cc h
named_some (Some ([], w)) k v h = cc h
named_some (Some (c ∷ key, w)) k v h =
    let p = some_pair (c ∷ key) k (without_space w) v h in
    (w, rw p.0 refl, sym p.1, rw (← p.0) (omega arith))

pub header_is : (c k v : List ℕ) → header_of c ≡ Some (k, v) → Header c k v
header_is c k v h =
    let n = named_some (at_colon c) k v h in
    let w : List ℕ = n.0 in
    let p = at_colon_some c k w n.1 in
    record {
      named_ = n.3;
      plain = p.1;
      spelled = rw n.2 (elim (space_cases w) [
        | inl s ↦ inl (rw (← s.0) p.0, s.1)
        | inr s ↦ inr (p.0 ∙ ap (λ (u : List ℕ). k ++ 58 ∷ u) s)
      ]);
    }

space_gone : (v : List ℕ) → begins_with is_space v ≡ false → without_space v ≡ v
space_gone [] h = refl
space_gone (c ∷ v) h = rw h refl

pub named_is : (k w : List ℕ) → 0 < length k → named (Some (k, w)) ≡ Some (k, without_space w)
named_is [] w h = absurd (omega arith)
named_is (c ∷ k) w h = refl

pub header_found : (limit : ℕ) (l : Line) (h : List ℕ × List ℕ) → IsHeader limit l h → header_of (content l) ≡ Some (h.0, h.1)
header_found limit l h is = elim is.spelled [
  | inl s ↦ rw (s.0, at_colon_is h.0 h.1 is.plain, named_is h.0 h.1 is.named, space_gone h.1 s.1) refl
  | inr s ↦ rw (s, at_colon_is h.0 (32 ∷ h.1) is.plain) (named_is h.0 (32 ∷ h.1) is.named)
]

pub header_of-nil : header_of [] ≡ None
unfolding at_colon
header_of-nil = refl

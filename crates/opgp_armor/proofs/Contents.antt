-- A line from its end.
use Rattle.std.proofs.Common.{◌≡◌, ℕ, zero, suc, ◌+◌, ◌-◌, ◌<◌, ◌≤◌, true, false, List, [], ◌∷◌, ◌++◌, length, take, slice_index, refl, sym, ap, ◌∙◌, arith}
use Rattle.std.proofs.lemmas.List.{take_more}
use Rattle.opgp_armor.specs.Text.{content, strip, is_trailing}

trailing_last : (a : List ℕ) (c : ℕ) → is_trailing c ≡ true → content (a ++ c ∷ []) ≡ content a
unfolding content
trailing_last [] c h = rw h refl
trailing_last (x ∷ a) c h = ap (strip x) (trailing_last a c h)

strip_kept : (x : ℕ) (a : List ℕ) (c : ℕ) → strip x (a ++ c ∷ []) ≡ x ∷ (a ++ c ∷ [])
strip_kept x [] c = refl
strip_kept x (y ∷ a) c = refl

kept_last : (a : List ℕ) (c : ℕ) → is_trailing c ≡ false → content (a ++ c ∷ []) ≡ a ++ c ∷ []
unfolding content
kept_last [] c h = rw h refl
kept_last (x ∷ a) c h = ap (strip x) (kept_last a c h) ∙ strip_kept x a c

front_more : (l : List ℕ) (n : ℕ) → 0 < n → n ≤ length l → take n l ≡ take (n - 1) l ++ slice_index l (n - 1) ∷ []
front_more l zero some h = absurd (omega arith)
front_more l (suc n) some h =
    let e : suc n ≡ n + 1 = omega arith in
    let f : n ≡ suc n - 1 = omega arith in
    ap (λ (v : ℕ). take v l) e ∙ take_more l n 0 (omega arith) ∙ ap (λ (v : ℕ). take v l ++ slice_index l v ∷ []) f

pub content_shorter : (l : List ℕ) (n : ℕ) → 0 < n → n ≤ length l → is_trailing (slice_index l (n - 1)) ≡ true → content (take (n - 1) l) ≡ content (take n l)
content_shorter l n some h t = sym (ap content (front_more l n some h) ∙ trailing_last (take (n - 1) l) (slice_index l (n - 1)) t)

pub content_done : (l : List ℕ) (n : ℕ) → 0 < n → n ≤ length l → is_trailing (slice_index l (n - 1)) ≡ false → content (take n l) ≡ take n l
content_done l n some h t = ap content (front_more l n some h) ∙ kept_last (take (n - 1) l) (slice_index l (n - 1)) t ∙ sym (front_more l n some h)

pub content_none : (l : List ℕ) (n : ℕ) → n ≡ 0 → content (take n l) ≡ take n l
unfolding content
content_none l n z = rw z refl

-- The members of lists, and tests of them.
use Rattle.std.proofs.Common.{◌≡◌, ◌∙◌, ◌⊎◌, inl, inr, List, [], ◌∷◌, Bool, true, false, cond, refl, sym, arith, subst, ◌<◌}
use Rattle.std.specs.List.{Contains, filter, list_any}
use Rattle.std.proofs.lemmas.Bool.{false_from_ne_true, true≢false}
use Rattle.std.proofs.lemmas.List.Folds.{Any-from_list_any, list_any-from_Any}
use Rattle.std.proofs.lemmas.List.Elements.{Contains-append_cases, Contains-append_left, Contains-append_right, Contains-push, Contains-push_cases}

-- ---- members
pub none_in : {A : Type 0} (x : A) → Contains [] x → ⊥
none_in x h = let l : h.0 < 0 = h.1 in omega arith

pub member_here : {A : Type 0} (x : A) (xs : List A) → Contains (x ∷ xs) x
member_here x xs = Contains-append_left (x ∷ []) xs x (Contains-push [] x)

pub member_there : {A : Type 0} (y x : A) (xs : List A) → Contains xs x → Contains (y ∷ xs) x
member_there y x xs h = Contains-append_right (y ∷ []) xs x h

pub member_cases : {A : Type 0} (y x : A) (xs : List A) → Contains (y ∷ xs) x → (y ≡ x) ⊎ Contains xs x
member_cases {A} y x xs h = elim (Contains-append_cases (y ∷ []) xs x h) [ inl a ↦ first (Contains-push_cases [] y x a) | inr b ↦ inr b ] where
  first : Contains [] x ⊎ (y ≡ x) → (y ≡ x) ⊎ Contains xs x
  first (inl a) = absurd (none_in x a)
  first (inr e) = inl e

-- ---- tests
pub some_passes : {A : Type 0} (p : A → Bool) (xs : List A) → list_any p xs ≡ true → (x : A) × Contains xs x × (p x ≡ true)
some_passes p xs e = let x = Any-from_list_any p xs e in (x.1, (x.0, x.2, x.3), x.4)

pub passes_some : {A : Type 0} (p : A → Bool) (xs : List A) (x : A) → Contains xs x → p x ≡ true → list_any p xs ≡ true
passes_some p xs x h e = list_any-from_Any p xs (h.0, x, h.1, h.2, e)

pub none_passes : {A : Type 0} (p : A → Bool) (xs : List A) → list_any p xs ≡ false → (x : A) → Contains xs x → p x ≡ false
none_passes p xs e x h = false_from_ne_true (p x) (λ t. true≢false (sym (passes_some p xs x h t) ∙ e))

pub passes_none : {A : Type 0} (p : A → Bool) (xs : List A) → ((x : A) → Contains xs x → p x ≡ false) → list_any p xs ≡ false
passes_none p xs h = false_from_ne_true (list_any p xs) (λ t. let x = some_passes p xs t in true≢false (sym x.2 ∙ h x.0 x.1))

-- ---- what a test keeps
pub kept_in : {A : Type 0} (p : A → Bool) (xs : List A) (x : A) → Contains (filter p xs) x → Contains xs x × (p x ≡ true)
kept_in {A} p [] x h = absurd (none_in x h)
kept_in {A} p (y ∷ ys) x h = step (p y) refl h (kept_in p ys x) where
  step : (t : Bool) → p y ≡ t → Contains (cond t (y ∷ filter p ys) (filter p ys)) x → (Contains (filter p ys) x → Contains ys x × (p x ≡ true)) → Contains (y ∷ ys) x × (p x ≡ true)
  step true e k rest = elim (member_cases y x (filter p ys) k) [ inl s ↦ (subst (λ (z : A). Contains (y ∷ ys) z) s (member_here y ys), subst (λ (z : A). p z ≡ true) s e) | inr r ↦ (member_there y x ys (rest r).0, (rest r).1) ]
  step false e k rest = (member_there y x ys (rest k).0, (rest k).1)

pub kept_from : {A : Type 0} (p : A → Bool) (xs : List A) (x : A) → Contains xs x → p x ≡ true → Contains (filter p xs) x
kept_from p [] x h e = absurd (none_in x h)
kept_from {A} p (y ∷ ys) x h e = step (p y) refl (member_cases y x ys h) (λ r. kept_from p ys x r e) where
  step : (t : Bool) → p y ≡ t → (y ≡ x) ⊎ Contains ys x → (Contains ys x → Contains (filter p ys) x) → Contains (cond t (y ∷ filter p ys) (filter p ys)) x
  step true u (inl s) rest = subst (λ (z : A). Contains (y ∷ filter p ys) z) s (member_here y (filter p ys))
  step true u (inr r) rest = member_there y x (filter p ys) (rest r)
  step false u (inl s) rest = absurd (true≢false (sym (subst (λ (z : A). p z ≡ true) (sym s) e) ∙ u))
  step false u (inr r) rest = rest r

-- Lists of which one has the items of the other in other places.
use Rattle.std.proofs.Common.{◌≡◌, ◌∙◌, ◌⊎◌, inl, inr, ◌++◌, ℕ, suc, ◌+◌, ◌<◌, ◌≤◌, ◌==◌, List, [], ◌∷◌, length, get_or, Bool, true, false, cond, Some, refl, sym, ap, arith}
use Rattle.std.specs.Prelude.{zero, slice_get, nat_lt}
use Rattle.std.specs.List.{list_any, swap}
use Rattle.std.specs.List.Sorted.{IsPermutation}
use Rattle.std.proofs.lemmas.Bool.{eq-eqb, eqb-true, false≢true, true≢false, ltb-false, ltb-true, or_cases, or_left, or_right}
use Rattle.std.proofs.lemmas.Bool.Decides.{nat_tests}
use Rattle.std.proofs.lemmas.List.Edits.{Swapped, length-swap, swapped_from_swap}
use Rattle.std.proofs.lemmas.List.Folds.{list_any-append}
use Rattle.std.proofs.lemmas.List.Sorted.{IsPermutation-keeps}
use Rattle.std.proofs.lemmas.Option.{same_Some, slice_get-get_or, slice_get_past}
use Rattle.opgp_report.specs.Standing.{by_number}

-- each item of the first is at another place of the second, and each of the second at another of the first
pub record AreMoved {A : Type 0} (a b : List A) : Type 0 where
  pub goes : ℕ → ℕ
  pub back : ℕ → ℕ
  pub there : (k : ℕ) → slice_get b (goes k) ≡ slice_get a k
  pub back_goes : (k : ℕ) → back (goes k) ≡ k
  pub goes_back : (k : ℕ) → goes (back k) ≡ k

-- no two of them go to one place
pub moved_once : {A : Type 0} (a b : List A) (h : AreMoved a b) (m n : ℕ) → h.goes m ≡ h.goes n → m ≡ n
moved_once a b h m n e = sym (h.back_goes m) ∙ ap h.back e ∙ h.back_goes n

moved_not : {A : Type 0} (a : List A) → AreMoved a a
moved_not a = record { goes = λ k. k; back = λ k. k; there = λ k. refl; back_goes = λ k. refl; goes_back = λ k. refl }

moved_then : {A : Type 0} (a b c : List A) → AreMoved a b → AreMoved b c → AreMoved a c
moved_then a b c h k = record {
  goes = λ n. k.goes (h.goes n);
  back = λ n. h.back (k.back n);
  there = λ n. k.there (h.goes n) ∙ h.there n;
  back_goes = λ n. ap h.back (k.back_goes (h.goes n)) ∙ h.back_goes n;
  goes_back = λ n. ap k.goes (h.goes_back (k.back n)) ∙ k.goes_back n;
}

moved_back : {A : Type 0} (a b : List A) → AreMoved a b → AreMoved b a
moved_back a b h = record {
  goes = h.back;
  back = h.goes;
  there = λ n. sym (h.there (h.back n)) ∙ ap (slice_get b) (h.goes_back n);
  back_goes = h.goes_back;
  goes_back = h.back_goes;
}

-- ---- behind one that stays
abbrev behind_one : (ℕ → ℕ) → ℕ → ℕ
behind_one f zero = zero
behind_one f (suc n) = suc (f n)

moved_behind : {A : Type 0} (x : A) (a b : List A) → AreMoved a b → AreMoved (x ∷ a) (x ∷ b)
moved_behind {A} x a b h = record { goes = behind_one h.goes; back = behind_one h.back; there = there; back_goes = back_goes; goes_back = goes_back } where
  there : (k : ℕ) → slice_get (x ∷ b) (behind_one h.goes k) ≡ slice_get (x ∷ a) k
  there zero = refl
  there (suc k) = h.there k

  back_goes : (k : ℕ) → behind_one h.back (behind_one h.goes k) ≡ k
  back_goes zero = refl
  back_goes (suc k) = ap suc (h.back_goes k)

  goes_back : (k : ℕ) → behind_one h.goes (behind_one h.back k) ≡ k
  goes_back zero = refl
  goes_back (suc k) = ap suc (h.goes_back k)

-- ---- the first two change places
abbrev changed : ℕ → ℕ
changed zero = suc zero
changed (suc zero) = zero
changed (suc (suc n)) = suc (suc n)

moved_first : {A : Type 0} (x y : A) (a : List A) → AreMoved (x ∷ y ∷ a) (y ∷ x ∷ a)
moved_first {A} x y a = record { goes = changed; back = changed; there = there; back_goes = twice; goes_back = twice } where
  there : (k : ℕ) → slice_get (y ∷ x ∷ a) (changed k) ≡ slice_get (x ∷ y ∷ a) k
  there zero = refl
  there (suc zero) = refl
  there (suc (suc k)) = refl

  twice : (k : ℕ) → changed (changed k) ≡ k
  twice zero = refl
  twice (suc zero) = refl
  twice (suc (suc k)) = refl

-- ---- one goes to the front
to_front : {A : Type 0} (before : List A) (x : A) (behind : List A) → (h : AreMoved (before ++ x ∷ behind) (x ∷ (before ++ behind))) × (h.goes (length before) ≡ 0)
unfolding moved_not moved_then moved_first moved_behind
to_front [] x behind = (moved_not (x ∷ behind), refl)
to_front (y ∷ before) x behind =
    let h = to_front before x behind in (
      moved_then (y ∷ (before ++ x ∷ behind)) (y ∷ x ∷ (before ++ behind)) (x ∷ y ∷ (before ++ behind)) (moved_behind y (before ++ x ∷ behind) (x ∷ (before ++ behind)) h.0) (moved_first y x (before ++ behind)),
      ap (λ (n : ℕ). changed (suc n)) h.1,
    )

-- one stands somewhere else among others that are moved
pub moved_around : {A : Type 0} (x : A) (before behind before_it behind_it : List A) → AreMoved (before ++ behind) (before_it ++ behind_it)
    → (h : AreMoved (before ++ x ∷ behind) (before_it ++ x ∷ behind_it)) × (h.goes (length before) ≡ length before_it)
unfolding moved_then moved_back moved_behind
moved_around {A} x before behind before_it behind_it moved =
    let front : List A = x ∷ (before ++ behind) in
    let front_it : List A = x ∷ (before_it ++ behind_it) in
    let first = to_front before x behind in
    let last = to_front before_it x behind_it in
    let within : AreMoved front front_it = moved_behind x (before ++ behind) (before_it ++ behind_it) moved in (
      moved_then (before ++ x ∷ behind) front (before_it ++ x ∷ behind_it) first.0 (moved_then front front_it (before_it ++ x ∷ behind_it) within (moved_back (before_it ++ x ∷ behind_it) front_it last.0)),
      ap (λ (n : ℕ). last.0.back (within.goes n)) first.1 ∙ ap last.0.back (sym last.1) ∙ last.0.back_goes (length before_it),
    )

-- ---- two change places
other : (m n : ℕ) → (m == n) ≡ false → m ≡ n → ⊥
other m n e h = true≢false (sym (eq-eqb m n h) ∙ e)

module _ {A : Type 0} (d : A) (a b : List A) (i j : ℕ) (p : i < length a) (q : j < length a) (long : length b ≡ length a) (s : Swapped (λ k. get_or a k d) (λ k. get_or b k d) i j) where
  abbrev swapped : ℕ → ℕ
  swapped k = cond (k == i) j (cond (k == j) i k)

  same_item : (m k : ℕ) → m < length b → k < length a → get_or b m d ≡ get_or a k d → slice_get b m ≡ slice_get a k
  same_item m k u v e = slice_get-get_or b m d u ∙ ap Some e ∙ sym (slice_get-get_or a k d v)

  swapped_there : (k : ℕ) → slice_get b (swapped k) ≡ slice_get a k
  swapped_there k = step (k == i) refl where
    unswapped : (k == i) ≡ false → (k == j) ≡ false → (t : Bool) → nat_lt k (length a) ≡ t → slice_get b k ≡ slice_get a k
    unswapped e f true g = let l : k < length a = ltb-true k (length a) g in same_item k k (omega arith) l (s.2 k (other k i e) (other k j f))
    unswapped e f false g = let l : length a ≤ k = ltb-false k (length a) g in slice_get_past b k (omega arith) ∙ sym (slice_get_past a k l)

    second : (k == i) ≡ false → (t : Bool) → (k == j) ≡ t → slice_get b (cond t i k) ≡ slice_get a k
    second e true f = let h : k ≡ j = eqb-true k j f in same_item i k (omega arith) (omega arith) (s.0 ∙ ap (λ (n : ℕ). get_or a n d) (sym h))
    second e false f = unswapped e f (nat_lt k (length a)) refl

    step : (t : Bool) → (k == i) ≡ t → slice_get b (cond t j (cond (k == j) i k)) ≡ slice_get a k
    step true e = let h : k ≡ i = eqb-true k i e in same_item j k (omega arith) (omega arith) (s.1 ∙ ap (λ (n : ℕ). get_or a n d) (sym h))
    step false e = second e (k == j) refl

  swapped_twice : (k : ℕ) → swapped (swapped k) ≡ k
  swapped_twice k = grind (arith, nat_tests)

  moved_swapped : AreMoved a b
  moved_swapped = record { goes = swapped; back = swapped; there = swapped_there; back_goes = swapped_twice; goes_back = swapped_twice }

moved_swap : {A : Type 0} (a : List A) (i j : ℕ) → i < length a → j < length a → AreMoved a (swap a i j)
moved_swap [] i j p q = absurd (omega (arith, p))
moved_swap (d ∷ a) i j p q = moved_swapped d (d ∷ a) (swap (d ∷ a) i j) i j p q (length-swap (d ∷ a) i j) (swapped_from_swap (d ∷ a) (swap (d ∷ a) i j) i j d p q refl)

-- those in another order are moved
pub moved_by : {A : Type 0} (a b : List A) → IsPermutation a b → AreMoved a b
moved_by a b h = IsPermutation-keeps a (λ l. AreMoved a l) (moved_not a) (λ l i j p q k. moved_then a l (swap l i j) k (moved_swap l i j p q)) b h

-- ---- by number
module _ {A B : Type 0} (q : B → Bool) (make : ℕ → A → List B) where
  -- what passes is made of an item
  some_made : (n : ℕ) (xs : List A) → list_any q (by_number make n xs) ≡ true → (k : ℕ) × (x : A) × (slice_get xs k ≡ Some x) × (list_any q (make (n + k) x) ≡ true)
  some_made n [] e = absurd (false≢true e)
  some_made n (x ∷ xs) e = step (some_made (n + 1) xs) (or_cases (list_any q (make n x)) (list_any q (by_number make (n + 1) xs)) (sym (list_any-append q (make n x) (by_number make (n + 1) xs)) ∙ e)) where
    step : (list_any q (by_number make (n + 1) xs) ≡ true → (k : ℕ) × (y : A) × (slice_get xs k ≡ Some y) × (list_any q (make (n + 1 + k) y) ≡ true)) → (list_any q (make n x) ≡ true) ⊎ (list_any q (by_number make (n + 1) xs) ≡ true) → (k : ℕ) × (y : A) × (slice_get (x ∷ xs) k ≡ Some y) × (list_any q (make (n + k) y) ≡ true)
    step rest (inl a) = (zero, x, refl, ap (λ (m : ℕ). list_any q (make m x)) (omega arith) ∙ a)
    step rest (inr b) =
        let h = rest b in
        let same : n + suc h.0 ≡ n + 1 + h.0 = omega arith in
        (suc h.0, h.1, h.2, ap (λ (m : ℕ). list_any q (make m h.1)) same ∙ h.3)

  made_some : (n : ℕ) (xs : List A) (k m : ℕ) (x : A) → slice_get xs k ≡ Some x → m ≡ n + k → list_any q (make m x) ≡ true → list_any q (by_number make n xs) ≡ true
  made_some n [] k m x h e t = absurd (cc h)
  made_some n (y ∷ xs) zero m x h e t =
      let same : m ≡ n = omega arith in
      list_any-append q (make n y) (by_number make (n + 1) xs)
      ∙ or_left (list_any q (make n y)) (list_any q (by_number make (n + 1) xs)) (ap (λ (z : A). list_any q (make n z)) (same_Some y x h) ∙ ap (λ (k : ℕ). list_any q (make k x)) (sym same) ∙ t)
  made_some n (y ∷ xs) (suc k) m x h e t =
      let same : m ≡ n + 1 + k = omega arith in
      list_any-append q (make n y) (by_number make (n + 1) xs)
      ∙ or_right (list_any q (make n y)) (list_any q (by_number make (n + 1) xs)) (made_some (n + 1) xs k m x h same t)

same_bool : (a b : Bool) → (a ≡ true → b ≡ true) → (b ≡ true → a ≡ true) → a ≡ b
same_bool true b f g = sym (f refl)
same_bool false true f g = g refl
same_bool false false f g = refl

-- made by their numbers in the other list, the same is made
pub moved_made : {A B : Type 0} (make : ℕ → A → List B) (a b : List A) (h : AreMoved a b) (q : B → Bool) → list_any q (by_number (λ k x. make (h.goes k) x) 0 a) ≡ list_any q (by_number make 0 b)
moved_made {A} {B} make a b h q = same_bool _ _ one_way other_way where
  one_way : list_any q (by_number (λ k x. make (h.goes k) x) 0 a) ≡ true → list_any q (by_number make 0 b) ≡ true
  one_way e =
      let x = some_made q (λ (k : ℕ) (x : A). make (h.goes k) x) 0 a e in
      let same : 0 + x.0 ≡ x.0 = omega arith in
      made_some q make 0 b (h.goes x.0) (h.goes (0 + x.0)) x.1 (h.there x.0 ∙ x.2) (ap h.goes same ∙ zeroth (h.goes x.0)) x.3 where
        zeroth : (n : ℕ) → n ≡ 0 + n
        zeroth n = omega arith

  other_way : list_any q (by_number make 0 b) ≡ true → list_any q (by_number (λ k x. make (h.goes k) x) 0 a) ≡ true
  other_way e =
      let y = some_made q make 0 b e in
      let k : ℕ = h.back y.0 in
      let same : 0 + y.0 ≡ y.0 = omega arith in
      made_some q (λ (m : ℕ) (x : A). make (h.goes m) x) 0 a k k y.1 (sym (h.there k) ∙ ap (slice_get b) (h.goes_back y.0) ∙ y.2) (omega arith)
      (ap (λ (m : ℕ). list_any q (make m y.1)) (h.goes_back y.0 ∙ sym same) ∙ y.3)

-- Pairs of two lists, of which the first n are a step further.
use Rattle.std.proofs.Common.{◌≡◌, ℕ, zero, suc, ◌+◌, ◌<◌, ◌≤◌, List, [], ◌∷◌, ◌++◌, length, map, take, get_or, set, slice_get, refl, sym, ap, subst, ◌∙◌, arith, Some}
use Rattle.std.proofs.lemmas.List.{take_more}
use Rattle.std.specs.List.{AllZip}

module _ {A B : Type 0} (P Q : A → B → Type 0) where
  -- the first n pairs have P, the others Q
  abbrev pub Mixed : ℕ → List A → List B → Type 0
  Mixed n [] [] = Unit {0}
  Mixed n [] (b ∷ ys) = ⊥
  Mixed n (a ∷ xs) [] = ⊥
  Mixed zero (a ∷ xs) (b ∷ ys) = Q a b × Mixed zero xs ys
  Mixed (suc n) (a ∷ xs) (b ∷ ys) = P a b × Mixed n xs ys

  pub begins : (xs : List A) (ys : List B) → AllZip Q xs ys → Mixed zero xs ys
  begins [] [] z = tt
  begins [] (b ∷ ys) z = z
  begins (a ∷ xs) [] z = z
  begins (a ∷ xs) (b ∷ ys) z = (z.0, begins xs ys z.1)

  pub all : (n : ℕ) (xs : List A) (ys : List B) → length xs ≤ n → Mixed n xs ys → AllZip P xs ys
  all n [] [] h m = tt
  all n [] (b ∷ ys) h m = m
  all n (a ∷ xs) [] h m = m
  all zero (a ∷ xs) (b ∷ ys) h m = absurd (omega arith)
  all (suc n) (a ∷ xs) (b ∷ ys) h m = (m.0, all n xs ys (omega arith) m.1)

  pub step : (n : ℕ) (xs : List A) (ys : List B) (x y : A) → n < length xs → x ≡ get_or xs n x → ((b : B) → Q x b → P y b) → Mixed n xs ys → Mixed (suc n) (set xs n y) ys
  step n [] ys x y h e f m = absurd (omega arith)
  step n (a ∷ xs) [] x y h e f m = absurd m
  step zero (a ∷ xs) (b ∷ ys) x y h e f m = (f b (subst (λ (z : A). Q z b) (sym e) m.0), m.1)
  step (suc n) (a ∷ xs) (b ∷ ys) x y h e f m = (m.0, step n xs ys x y (omega arith) e f m.1)

  -- the second list has one for each of the first n, of which P holds
  pub earlier : (n i : ℕ) (xs : List A) (ys : List B) → i < n → i < length xs → Mixed n xs ys
      → (a : A) × (b : B) × (slice_get xs i ≡ Some a) × P a b
  earlier n i [] ys h l m = absurd (omega arith)
  earlier n i (a ∷ xs) [] h l m = absurd m
  earlier zero i (a ∷ xs) (b ∷ ys) h l m = absurd (omega arith)
  earlier (suc n) zero (a ∷ xs) (b ∷ ys) h l m = (a, b, refl, m.0)
  earlier (suc n) (suc i) (a ∷ xs) (b ∷ ys) h l m = earlier n i xs ys (omega arith) (omega arith) m.1

-- ---- pairs of two lists, all of them
module _ {A B : Type 0} (R : A → B → Type 0) where
  pub as_long : (xs : List A) (ys : List B) → AllZip R xs ys → length xs ≡ length ys
  as_long [] [] z = refl
  as_long [] (b ∷ ys) z = absurd z
  as_long (a ∷ xs) [] z = absurd z
  as_long (a ∷ xs) (b ∷ ys) z = ap (λ (n : ℕ). suc n) (as_long xs ys z.1)

  pub added : (xs : List A) (ys : List B) (a : A) (b : B) → AllZip R xs ys → R a b → AllZip R (xs ++ a ∷ []) (ys ++ b ∷ [])
  added [] [] a b z r = (r, tt)
  added [] (d ∷ ys) a b z r = absurd z
  added (c ∷ xs) [] a b z r = absurd z
  added (c ∷ xs) (d ∷ ys) a b z r = (z.0, added xs ys a b z.1 r)

  pub paired : (xs : List A) (ys : List B) (i : ℕ) (x : A) → AllZip R xs ys → i < length xs → x ≡ get_or xs i x
      → (b : B) × (slice_get ys i ≡ Some b) × R x b
  paired [] ys i x z h e = absurd (omega arith)
  paired (a ∷ xs) [] i x z h e = absurd z
  paired (a ∷ xs) (b ∷ ys) zero x z h e = (b, refl, subst (λ (v : A). R v b) (sym e) z.0)
  paired (a ∷ xs) (b ∷ ys) (suc i) x z h e = paired xs ys i x z.1 (omega arith) e

pub got : {A : Type 0} (xs : List A) (n : ℕ) (x : A) → n < length xs → x ≡ get_or xs n x → slice_get xs n ≡ Some x
got [] n x h e = absurd (omega arith)
got (a ∷ xs) zero x h e = ap (λ (y : _). Some y) (sym e)
got (a ∷ xs) (suc n) x h e = got xs n x (omega arith) e

-- of what each of the first list has
pub of_each : {A B C : Type 0} (R : C → B → Type 0) (f : A → C) (xs : List A) (ys : List B) → AllZip (λ (a : A) (b : B). R (f a) b) xs ys → AllZip R (map f xs) ys
of_each R f [] [] z = tt
of_each R f [] (b ∷ ys) z = z
of_each R f (a ∷ xs) [] z = z
of_each R f (a ∷ xs) (b ∷ ys) z = (z.0, of_each R f xs ys z.1)

map_added : {A B : Type 0} (f : A → B) (xs : List A) (x : A) → map f (xs ++ x ∷ []) ≡ map f xs ++ f x ∷ []
map_added f [] x = refl
map_added f (a ∷ xs) x = ap (λ (l : List _). f a ∷ l) (map_added f xs x)

pub one_more : {A B : Type 0} (f : A → B) (xs : List A) (i : ℕ) (x : A) → i < length xs → x ≡ get_or xs i x
    → map f (take i xs) ++ f x ∷ [] ≡ map f (take (i + 1) xs)
one_more f xs i x h e =
    sym (map_added f (take i xs) x) ∙ ap (λ (v : _). map f (take i xs ++ v ∷ [])) e ∙ ap (λ (l : List _). map f l) (sym (take_more xs i x h))

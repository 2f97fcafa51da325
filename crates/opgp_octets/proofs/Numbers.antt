-- What numbers of faults stand for; and their names are short.
use Rattle.std.proofs.Common.{arith, ℕ, ◌≡◌, ◌≤◌, ◌+◌, ◌<◌, ◌==◌, Bool, true, false, List, [], ◌∷◌, length, drop, get_or, Option, Some, None, refl, sym, cond, add-one}
use Rattle.std.proofs.lemmas.Bool.{eq-eqb, eqb-true, ne_eqb}
use Rattle.std.proofs.Math.Seq.{drop-cons}
use Rattle.opgp_octets.specs.Fault.{layer_name, layer_number, layer_of, reason_name, reason_number, reason_of}
use Rattle.opgp_octets.specs.Rows.{StandsFor, with_number}
use Rattle.opgp_octets.specs.declared.fault.Layer.{Layer}
use Rattle.opgp_octets.specs.declared.fault.Layer.TheVariants as layer
use Rattle.opgp_octets.specs.declared.fault.Reason.{Reason}
use Rattle.opgp_octets.specs.declared.fault.Reason.TheVariants as reason

pub layer_listed : (l : Layer) → layer_of (layer_number l) ≡ Some l
unfolding layer_of
layer_listed layer.Input = refl
layer_listed l = refl

pub reason_listed : (r : Reason) → reason_of (reason_number r) ≡ Some r
unfolding reason_of
reason_listed reason.Spent = refl
reason_listed r = refl

pub layer_short : (l : Layer) → length (layer_name l) ≤ 11
unfolding layer_name
layer_short layer.Input = omega arith
layer_short l = omega arith

pub reason_short : (r : Reason) → length (reason_name r) ≤ 17
unfolding reason_name
reason_short reason.Spent = omega arith
reason_short r = omega arith

-- the one that is found has the number
chosen : {A : Type 0} (number : A → ℕ) (n : ℕ) (b : Bool) (y : A) (r : Option A) (x : A) → n == number y ≡ b → (r ≡ Some x → number x ≡ n) → cond b (Some y) r ≡ Some x → number x ≡ n
chosen number n true y r x b h e =
    let same : y ≡ x = cc in
    let is : n ≡ number y = eqb-true n (number y) b in
    cc
chosen number n false y r x b h e = h e

has_it : {A : Type 0} (number : A → ℕ) (n : ℕ) (xs : List A) (x : A) → with_number number n xs ≡ Some x → number x ≡ n
has_it number n [] x e = absurd cc
has_it number n (y ∷ ys) x e = chosen number n (n == number y) y (with_number number n ys) x refl (has_it number n ys x) e

-- what is found is what the number stands for, where the search finds each by its number
pub found : {A : Type 0} (number : A → ℕ) (n : ℕ) (xs : List A) → ((x : A) → with_number number (number x) xs ≡ Some x) → (r : Option A) → r ≡ with_number number n xs → StandsFor number n r
found number n xs all (Some x) e = has_it number n xs x (sym e)
found number n xs all None e = λ x is. let that : with_number number n xs ≡ Some x = rw (sym is) (all x) in absurd cc

-- one step of a search for it
pub found_here : {A : Type 0} (number : A → ℕ) (n i : ℕ) (xs : List A) (d : A) → i < length xs → number (get_or xs i d) ≡ n → with_number number n (drop i xs) ≡ Some (get_or xs i d)
found_here number n i xs d l e = rw (drop-cons xs i d, eq-eqb n (number (get_or xs i d)) (sym e))

pub not_here : {A : Type 0} (number : A → ℕ) (n i : ℕ) (xs : List A) (d : A) → i < length xs → (number (get_or xs i d) ≡ n → ⊥) → with_number number n (drop i xs) ≡ with_number number n (drop (i + 1) xs)
not_here number n i xs d l e = rw (drop-cons xs i d, ne_eqb n (number (get_or xs i d)) (λ same. e (sym same)), add-one)

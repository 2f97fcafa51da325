-- A loop that adds the text of each element of a list.
use Rattle.std.proofs.Common.{◌≡◌, ◌∙◌, ℕ, ◌+◌, ◌<◌, List, [], ◌∷◌, ◌++◌, sym, ap, subst, length, take, drop, get_or, Result, Ok, Err}
use Rattle.std.specs.List.{flat_map}
use Rattle.std.specs.Result.{IsErr}
use Rattle.std.proofs.lemmas.List.{take_more, take-append-drop, append-nil}
use Rattle.std.proofs.lemmas.List.Concat.{flat_map-append}
use Rattle.opgp_io.specs.Added.{State, Adds, Breaks, Writes}
use Rattle.opgp_io.proofs.Added.{adds_then, breaks_then, breaks_more}

one_more : {X : Type 0} (f : X → List ℕ) (xs : List X) (i : ℕ) (x : X) (octets : List ℕ) → i < length xs → x ≡ get_or xs i x → octets ≡ f x
    → flat_map f (take i xs) ++ octets ≡ flat_map f (take (i + 1) xs)
one_more {X} f xs i x octets l is e =
    ap (λ (v : List ℕ). flat_map f (take i xs) ++ v) (e ∙ ap f is ∙ sym (append-nil (f (get_or xs i x))))
    ∙ sym (flat_map-append f (take i xs) (get_or xs i x ∷ [])) ∙ ap (λ (v : List X). flat_map f v) (sym (take_more xs i x l))

pub more_of : {X : Type 0} (f : X → List ℕ) (a b c : State) (xs : List X) (i : ℕ) (x : X) (octets : List ℕ) → i < length xs → x ≡ get_or xs i x → octets ≡ f x
    → Adds a b (flat_map f (take i xs)) → Adds b c octets → Adds a c (flat_map f (take (i + 1) xs))
more_of {X} f a b c xs i x octets l is e p q = subst (Adds a c) (one_more f xs i x octets l is e) (adds_then a b c (flat_map f (take i xs)) octets p q)

pub broken_of : {X E : Type 0} (f : X → List ℕ) (a b c : State) (r : Result Unit E) (xs : List X) (i : ℕ) (x : X) (octets : List ℕ) → i < length xs → x ≡ get_or xs i x → octets ≡ f x
    → IsErr r → Adds a b (flat_map f (take i xs)) → Breaks b c octets → Writes a c r (flat_map f xs)
broken_of {X} f a b c (Ok u) xs i x octets l is e h p q = cc h
broken_of {X} f a b c (Err d) xs i x octets l is e h p q =
    let done : List ℕ = flat_map f (take i xs) ++ octets in
    let rest : List ℕ = flat_map f (drop (i + 1) xs) in
    subst (Breaks a c)
    (ap (λ (v : List ℕ). v ++ rest) (one_more f xs i x octets l is e) ∙ sym (flat_map-append f (take (i + 1) xs) (drop (i + 1) xs)) ∙ ap (λ (v : List X). flat_map f v) (take-append-drop (i + 1) xs))
    (breaks_more a c done rest (breaks_then a b c _ octets p q))

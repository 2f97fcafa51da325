-- A loop that adds the text of each element of a list.
use Rattle.std.proofs.Common.{◌≡◌, ◌∙◌, ℕ, ◌+◌, ◌<◌, List, [], ◌∷◌, ◌++◌, sym, ap, length, take, drop, get_or}
use Rattle.std.specs.List.{flat_map}
use Rattle.std.proofs.lemmas.List.{take_more, take-append-drop, append-nil}
use Rattle.std.proofs.lemmas.List.Concat.{flat_map-append}
use Rattle.opgp_io.specs.Added.{State, Adds, Breaks}
use Rattle.opgp_io.proofs.Added.{adds_then, adds_same, breaks_then, breaks_same, breaks_more}

one_more : {X : Type 0} (f : X → List ℕ) (xs : List X) (i : ℕ) (x : X) → i < length xs → flat_map f (take i xs) ++ f (get_or xs i x) ≡ flat_map f (take (i + 1) xs)
one_more {X} f xs i x l =
    ap (λ (v : List ℕ). flat_map f (take i xs) ++ v) (sym (append-nil (f (get_or xs i x))))
    ∙ sym (flat_map-append f (take i xs) (get_or xs i x ∷ [])) ∙ ap (λ (v : List X). flat_map f v) (sym (take_more xs i x l))

pub more_of : {X : Type 0} (f : X → List ℕ) (a b c : State) (xs : List X) (i : ℕ) (x : X) → i < length xs
    → Adds a b (flat_map f (take i xs)) → Adds b c (f (get_or xs i x)) → Adds a c (flat_map f (take (i + 1) xs))
more_of {X} f a b c xs i x l p q =
    adds_same a c (flat_map f (take i xs) ++ f (get_or xs i x)) (flat_map f (take (i + 1) xs)) (one_more f xs i x l) (adds_then a b c _ _ p q)

pub broken_of : {X : Type 0} (f : X → List ℕ) (a b c : State) (xs : List X) (i : ℕ) (x : X) → i < length xs
    → Adds a b (flat_map f (take i xs)) → Breaks b c (f (get_or xs i x)) → Breaks a c (flat_map f xs)
broken_of {X} f a b c xs i x l p q =
    let done : List ℕ = flat_map f (take i xs) ++ f (get_or xs i x) in
    let rest : List ℕ = flat_map f (drop (i + 1) xs) in
    breaks_same a c (done ++ rest) (flat_map f xs)
    (ap (λ (v : List ℕ). v ++ rest) (one_more f xs i x l) ∙ sym (flat_map-append f (take (i + 1) xs) (drop (i + 1) xs)) ∙ ap (λ (v : List X). flat_map f v) (take-append-drop (i + 1) xs))
    (breaks_more a c done rest (breaks_then a b c _ _ p q))

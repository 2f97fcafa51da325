-- What is made of the items of a list by their numbers.
use Rattle.std.proofs.Common.{◌≡◌, ◌∙◌, ℕ, ◌+◌, List, [], ◌∷◌, ◌++◌, length, map, refl, sym, ap, arith, append_assoc}
use Rattle.std.specs.List.{flat_map}
use Rattle.std.proofs.lemmas.List.{map-append}
use Rattle.opgp_report.specs.Standing.{by_number}

pub by_number_append : {A B : Type 0} (make : ℕ → A → List B) (n : ℕ) (xs ys : List A) → by_number make n (xs ++ ys) ≡ by_number make n xs ++ by_number make (n + length xs) ys
by_number_append make n [] ys = ap (λ (m : ℕ). by_number make m ys) (omega arith)
by_number_append {A} {B} make n (x ∷ xs) ys =
    ap (λ (l : List B). make n x ++ l) (by_number_append make (n + 1) xs ys ∙ ap (λ (m : ℕ). by_number make (n + 1) xs ++ by_number make m ys) (omega arith))
    ∙ sym (append_assoc (make n x) (by_number make (n + 1) xs) (by_number make (n + length (x ∷ xs)) ys))

-- the same is made of items that are changed so
pub of_changed : {A B : Type 0} (make : ℕ → A → List B) (change : A → A) → ((n : ℕ) (x : A) → make n (change x) ≡ make n x) → (n : ℕ) (xs : List A) → by_number make n (map change xs) ≡ by_number make n xs
of_changed make change same n [] = refl
of_changed {A} {B} make change same n (x ∷ xs) =
    ap (λ (l : List B). l ++ by_number make (n + 1) (map change xs)) (same n x) ∙ ap (λ (l : List B). make n x ++ l) (of_changed make change same (n + 1) xs)

-- numbers aren't seen in what is made
pub unnumbered : {A B C : Type 0} (make : ℕ → A → List B) (see : B → C) (each : A → List C) → ((n : ℕ) (x : A) → map see (make n x) ≡ each x) → (n : ℕ) (xs : List A) → map see (by_number make n xs) ≡ flat_map each xs
unnumbered make see each same n [] = refl
unnumbered {A} {B} {C} make see each same n (x ∷ xs) =
    map-append see (make n x) (by_number make (n + 1) xs)
    ∙ ap (λ (l : List C). l ++ map see (by_number make (n + 1) xs)) (same n x) ∙ ap (λ (l : List C). each x ++ l) (unnumbered make see each same (n + 1) xs)

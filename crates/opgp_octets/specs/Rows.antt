-- What a number stands for in a table.
use Rattle.std.specs.Prelude.{ℕ, ◌==◌, ◌≡◌, if◌then◌else◌, List, [], ◌∷◌, Option, Some, None}

-- the first in a list that has the number; the other where none has
abbrev pub numbered : {A : Type 0} → (A → ℕ) → ℕ → A → List A → A
numbered number n other [] = other
numbered number n other (x ∷ xs) = if n == number x then x else numbered number n other xs

-- the first in a list that has the number
abbrev pub with_number : {A : Type 0} → (A → ℕ) → ℕ → List A → Option A
with_number number n [] = None
with_number number n (x ∷ xs) = if n == number x then Some x else with_number number n xs

-- the number stands for the one that has it; for nothing, where none has it
abbrev pub StandsFor : {A : Type 0} → (A → ℕ) → ℕ → Option A → Type 0
StandsFor number n (Some x) = number x ≡ n
StandsFor number n None = (x : _) → number x ≡ n → ⊥

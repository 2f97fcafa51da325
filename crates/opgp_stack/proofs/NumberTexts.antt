-- Numbers, one after the other.
use Rattle.std.proofs.Common.{◌≡◌, ℕ, ◌-◌, ◌≤◌, List, [], ◌∷◌, ◌++◌, length, take, drop, get_or, ap, sym, arith}
use Rattle.std.proofs.lemmas.List.{take_all}
use Rattle.opgp_stack.specs.Values.{number_text, numbers_text}

pub first_number : (o : List ℕ) → 1 ≤ length o → numbers_text o ≡ number_text (get_or o 0 0) ++ numbers_text (take (length o - 1) (drop 1 o))
first_number [] some = absurd (omega (arith, some))
first_number (n ∷ o) some = ap (λ (r : List ℕ). number_text n ++ numbers_text r) (sym (take_all (length (n ∷ o) - 1) o (omega arith)))

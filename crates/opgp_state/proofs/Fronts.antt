-- The fronts of lists.
use Rattle.std.proofs.Common.{◌≡◌, ◌≢◌, ◌∙◌, ℕ, List, ◌++◌, Option, Some, None, ap, sym}
use Rattle.std.specs.Borrow.{Bor}
use Rattle.std.specs.Prelude.{IfNone, IfSome, MatchOption}

pub found_of : (s p : List ℕ) (r : Option (Bor (List ℕ))) → MatchOption r ((rest : List ℕ) → s ≢ p ++ rest) (λ x. s ≡ p ++ x.now) → IfSome r (λ x. s ≡ p ++ x.now)
found_of s p (Some x) h = h
found_of s p None h = tt

pub missed_of : (s p : List ℕ) (r : Option (Bor (List ℕ))) → MatchOption r ((rest : List ℕ) → s ≢ p ++ rest) (λ x. s ≡ p ++ x.now) → IfNone r ((rest : List ℕ) → s ≡ p ++ rest → ⊥)
missed_of s p (Some x) h = tt
missed_of s p None h = h

-- where the front is another list that is equal
pub matched_of : (r : Option (Bor (List ℕ))) (s p q : List ℕ) → p ≡ q → IfSome r (λ x. s ≡ p ++ x.now) → IfNone r ((rest : List ℕ) → s ≡ p ++ rest → ⊥)
    → MatchOption r ((rest : List ℕ) → s ≡ q ++ rest → ⊥) (λ x. s ≡ q ++ x.now)
matched_of (Some x) s p q e some none = some ∙ ap (λ (l : List ℕ). l ++ x.now) e
matched_of None s p q e some none = λ rest h. none rest (h ∙ ap (λ (l : List ℕ). l ++ rest) (sym e))

-- The last item of a list, changed.
use Rattle.std.proofs.Common.{◌≡◌, List, [], ◌∷◌, ◌++◌, refl, ap}
use Rattle.opgp_valid.specs.Told.{change_last}

pub last_changed : {A : Type 0} (f : A → A) (xs : List A) (x : A) → change_last f (xs ++ x ∷ []) ≡ xs ++ f x ∷ []
last_changed f [] x = refl
last_changed f (y ∷ []) x = refl
last_changed f (y ∷ z ∷ ys) x = ap (λ l. y ∷ l) (last_changed f (z ∷ ys) x)

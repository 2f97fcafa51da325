-- headers that can be written, one after the other
use Rattle.std.proofs.Common.{◌≡◌, ℕ, ◌+◌, ◌<◌, List, [], ◌∷◌, ◌++◌, length, get_or, take, map, refl}
use Rattle.std.proofs.lemmas.List.{take_more}
use Rattle.std.proofs.lemmas.List.{map-append}
use Rattle.std.specs.List.{AllByRecursion}
use Rattle.opgp_armor.proofs.Lists.{recursion-append}
use Rattle.opgp_armor.specs.Text.{is_trailing}
use Rattle.opgp_armor.specs.Written.{ends_trailing}

-- A value ends in what its last octet is.
pub ends_last : (v : List ℕ) (c : ℕ) → ends_trailing (v ++ c ∷ []) ≡ is_trailing c
ends_last [] c = refl
ends_last (d ∷ []) c = refl
ends_last (d ∷ e ∷ es) c = ends_last (e ∷ es) c

-- what holds of the first elements and of the next one holds of all these
pub one_more : {X Y : Type 0} (f : X → Y) (P : Y → Type 0) (xs : List X) (i : ℕ) (d : X) → i < length xs → AllByRecursion P (map f (take i xs)) → P (f (get_or xs i d)) → AllByRecursion P (map f (take (i + 1) xs))
one_more f P xs i d below hs h =
    rw (take_more xs i d below) (rw (map-append f (take i xs) (get_or xs i d ∷ [])) (
    recursion-append P (map f (take i xs)) (f (get_or xs i d) ∷ []) hs (h, tt)))

-- The first of some signatures that revokes a key.
use Rattle.std.proofs.Common.{◌≡◌, List, [], ◌∷◌, Bool, true, false, cond, ◌||◌, Option, Some, None, refl, is_some}
use Rattle.std.specs.List.{find, list_any}
use Rattle.std.specs.Option.{option_and_then, option_map}
use Rattle.opgp_valid.specs.Standing.{revokes}
use Rattle.opgp_valid.specs.State.{first_revocation, revocation_in}
use Rattle.opgp_valid.specs.declared.facts.Key.{Key}
use Rattle.opgp_valid.specs.declared.statement.Statement.{Statement}

-- one revokes it if there is a first one that does
pub revoked_first : (k : Key) (ss : List Statement) → list_any (revokes k) ss ≡ is_some (first_revocation k ss)
revoked_first k [] = refl
revoked_first k (s ∷ ss) = step (revokes k s) (revoked_first k ss) where
  step : (t : Bool) → list_any (revokes k) ss ≡ is_some (first_revocation k ss) → (t || list_any (revokes k) ss) ≡ is_some (option_map revocation_in (cond t (Some s) (find (revokes k) ss)))
  step true r = refl
  step false r = r

-- and its reason is that one's
pub reason_first : (k : Key) (ss : List Statement) → option_and_then (λ s. s.reason) (find (revokes k) ss) ≡ option_and_then (λ r. r.reason) (first_revocation k ss)
reason_first k ss = of (find (revokes k) ss) where
  of : (o : Option Statement) → option_and_then (λ s. s.reason) o ≡ option_and_then (λ r. r.reason) (option_map revocation_in o)
  of None = refl
  of (Some s) = refl

-- Causes: the first of some signatures, and the reason of each cause.
use Rattle.std.proofs.Common.{◌≡◌, ◌∙◌, ℕ, List, [], ◌∷◌, Bool, true, false, cond, ◌||◌, Option, Some, None, is_some, refl, sym, ap}
use Rattle.std.specs.List.{find, list_any}
use Rattle.std.specs.Option.{option_map}
use Rattle.opgp_valid.specs.Cause.{cause_by, cause_of, expired_at, expired_key, is_lacking, lack_of, lacking_by, only_now, revoked_by, time_of, unbound_at, unbound_by, unbound_key}
use Rattle.opgp_valid.specs.Facts.{FactsValue}
use Rattle.opgp_valid.specs.Standing.{revokes, standing_of}
use Rattle.opgp_valid.specs.declared.doubt.Lack.{Lack}
use Rattle.opgp_valid.specs.declared.facts.Key.{Key}
use Rattle.opgp_valid.specs.declared.statement.Statement.{Statement}
use Rattle.opgp_valid.specs.declared.why.Why.{Why}
use Rattle.opgp_valid.specs.declared.why.Why.TheVariants.{Future, Revoked, Early, Unbound, Expired, Flags, Back}

-- ---- the first of some
-- one passes if there is a first one that does
any_first : {A : Type 0} (p : A → Bool) (xs : List A) → list_any p xs ≡ is_some (find p xs)
any_first p [] = refl
any_first {A} p (x ∷ xs) = step (p x) (any_first p xs) where
  step : (t : Bool) → list_any p xs ≡ is_some (find p xs) → (t || list_any p xs) ≡ is_some (cond t (Some x) (find p xs))
  step true r = refl
  step false r = r

seen_some : {A B : Type 0} (view : B → A) (o : Option B) → is_some o ≡ is_some (option_map view o)
seen_some view None = refl
seen_some view (Some x) = refl

-- what was found, as it is seen
pub found_some : {A B : Type 0} (view : B → A) (p : A → Bool) (xs : List A) (o : Option B) → option_map view o ≡ find p xs → is_some o ≡ list_any p xs
found_some view p xs o e = seen_some view o ∙ ap is_some e ∙ sym (any_first p xs)

-- ---- the reason of each cause
revoked_why : (k : Key) (o : Option Statement) → (revoked_by k o).why ≡ Revoked
revoked_why k None = refl
revoked_why k (Some s) = refl

lacking_why : (k : Key) (now : Bool) (lack : Lack) (o : Option Statement) → (lacking_by k now lack o).why ≡ Unbound
lacking_why k now lack None = refl
lacking_why k now lack (Some s) = refl

unbound_by_why : (f : FactsValue) (k : Key) (now : Bool) (at : ℕ) (o : Option Lack) → (unbound_by f k now at o).why ≡ Unbound
unbound_by_why f k now at None = refl
unbound_by_why f k now at (Some lack) = lacking_why k now lack (find (is_lacking f k at lack) f.statements)

unbound_why : (f : FactsValue) (k : Key) (now : Bool) (at : ℕ) → (unbound_at f k now at).why ≡ Unbound
unfolding unbound_at
unbound_why f k now at = unbound_by_why f k now at (lack_of f k at)

expired_why : (f : FactsValue) (k : Key) (now : Bool) (at : ℕ) → (expired_at f k now at).why ≡ Expired
unfolding expired_at
expired_why f k now at = refl

module _ (f : FactsValue) (k : Key) (made now : ℕ) where
  cause_why : (why : Why) → (cause_by f k made now why).why ≡ why
  cause_why Future = refl
  cause_why Revoked = revoked_why k (find (revokes k) f.statements)
  cause_why Early = refl
  cause_why Unbound = unbound_why f (unbound_key f k (time_of f k made now Unbound)) (only_now f k made Unbound) (time_of f k made now Unbound)
  cause_why Expired = expired_why f (expired_key f k (time_of f k made now Expired)) (only_now f k made Expired) (time_of f k made now Expired)
  cause_why Flags = refl
  cause_why Back = refl

  reason_kept : (o : Option Why) → option_map (λ c. c.why) (option_map (cause_by f k made now) o) ≡ o
  reason_kept None = refl
  reason_kept (Some why) = ap Some (cause_why why)

pub a_cause_has_its_reason : (f : FactsValue) (k : Key) (made now : ℕ) → option_map (λ c. c.why) (cause_of f k made now) ≡ standing_of f k made now
a_cause_has_its_reason f k made now = reason_kept f k made now (standing_of f k made now)

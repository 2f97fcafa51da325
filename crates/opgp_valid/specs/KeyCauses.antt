-- What makes the keys of a certificate of no use at a time.
use Rattle.std.specs.Prelude.{◌≡◌, ℕ, ◌+◌, Bool, false, if◌then◌else◌, List, [], ◌∷◌}
use Rattle.std.specs.Prelude.{Option, Some, None}
use Rattle.std.specs.Option.{option_map}
use Rattle.opgp_keyring.specs.Keyring.{CertificateValue, ComponentValue}
use Rattle.opgp_valid.specs.Cause.{cause_by, cause_with, expired_at, expired_by, unbound_at}
use Rattle.opgp_valid.specs.Facts.{FactsValue}
use Rattle.opgp_valid.specs.Judgement.{subkey_at}
use Rattle.opgp_valid.specs.Saying.{is_nonempty}
use Rattle.opgp_valid.specs.Speaking.{end_in}
use Rattle.opgp_valid.specs.Standing.{has_ended, heard, speakers}
use Rattle.opgp_valid.specs.State.{unusable}
use Rattle.opgp_valid.specs.States.{IsOfPrimary}
use Rattle.opgp_valid.specs.declared.cause.Cause.{Cause}
use Rattle.opgp_valid.specs.declared.key_causes.Shared.{Shared}
use Rattle.opgp_valid.specs.declared.facts.Key.{Key}
use Rattle.opgp_valid.specs.declared.facts.Key.TheVariants as key
use Rattle.opgp_valid.specs.declared.state.Revocation.{Revocation}
use Rattle.opgp_valid.specs.declared.why.Why.TheVariants.{Revoked}

-- the cause of why a key is of no use, if it is of none
abbrev pub unusable_cause : FactsValue → Key → ℕ → Option Cause
unusable_cause f k at = option_map (cause_by f k at at) (unusable f k at)

-- of a component, if it is a key
abbrev pub part_cause : FactsValue → ℕ → Option Key → Option Cause
part_cause f at (Some k) = unusable_cause f k at
part_cause f at None = None

-- of components, numbered from here
abbrev pub causes_from : FactsValue → ℕ → ℕ → List ComponentValue → List (Option Cause)
causes_from f at n [] = []
causes_from f at n (c ∷ cs) =
    part_cause f at (subkey_at n (Some c)) ∷ causes_from f at (n + 1) cs

-- of the primary key, and of each component in order
abbrev pub causes_of : FactsValue → CertificateValue → ℕ → List (Option Cause)
causes_of f c at = unusable_cause f key.Primary at ∷ causes_from f at 0 c.components

-- ---- how they are found
-- by the first revocation
abbrev pub revoked_with : Key → Option Revocation → Cause
revoked_with k None = cause_with Revoked k false None None None
revoked_with k (Some r) = cause_with Revoked (if r.is_of_primary then key.Primary else k) false
    None r.made (Some r.spot)

-- that nothing speaks for the primary key, if that is so; and that it has expired
abbrev pub unbound_shared : FactsValue → ℕ → Option Cause
unbound_shared f at = if is_nonempty (speakers f key.Primary at) then None
    else Some (unbound_at f key.Primary false at)

abbrev pub expired_shared : FactsValue → ℕ → Option Cause
expired_shared f at = if has_ended at (end_in f.created (heard f key.Primary at))
    then Some (expired_at f key.Primary false at) else None

-- this was found of the primary key at a time
pub record IsShared (f : FactsValue) (at : ℕ) (shared : Shared) : Type 0 where
  pub primary : IsOfPrimary f at shared.primary
  pub unbound : shared.unbound ≡ unbound_shared f at
  pub expired : shared.expired ≡ expired_shared f at

-- some of the statements are enough to say why a key is unbound, or has expired
pub record AreEnoughFor (f : FactsValue) (k : Key) (at : ℕ) (part : FactsValue) : Type 0 where
  pub unbound : unbound_at part k false at ≡ unbound_at f k false at
  pub expired : (end : Option ℕ) → expired_by part k false at end ≡ expired_by f k false at end

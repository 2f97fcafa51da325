-- What a composer keeps: what it was given, and its fault.
use Rattle.std.proofs.Common.{◌≡◌, false, List, [], ◌∷◌, ◌++◌, Some, IsSome, refl, sym, ap, subst, ◌∙◌, append-nil, inl}
use Rattle.opgp_octets.specs.declared.limits.Limits.{Limits}
use Rattle.opgp_octets.specs.declared.fault.Fault.{Fault}
use Rattle.opgp_keyring.specs.declared.composer.Composer.{Composer}
use Rattle.opgp_keyring.specs.declared.composer.State.{State}
use Rattle.opgp_keyring.specs.declared.composer.State.TheVariants.{Leading, Growing, Disordered, Broken, Spent}
use Rattle.opgp_keyring.specs.Composed.{PartValue}
use Rattle.opgp_keyring.specs.Composition.{Item}
use Rattle.opgp_keyring.specs.Fed.{Fed, KeepsFed, TakesIn, StaysFaulty}
use Rattle.opgp_keyring.specs.State.{is_open, fault_of_state}

-- one item more, and nothing handed out
pub kept_one : (old new : Composer) (i : Item) → TakesIn old new i → KeepsFed old new (i ∷ []) []
kept_one old new i k = λ limits given taken f. subst (λ (parts : List PartValue). Fed limits new (given ++ i ∷ []) parts) (sym (append-nil taken)) (k limits given taken f)

pub taken_one : (old new : Composer) (i : Item) → KeepsFed old new (i ∷ []) [] → TakesIn old new i
taken_one old new i k = λ limits given taken f. subst (λ (parts : List PartValue). Fed limits new (given ++ i ∷ []) parts) (append-nil taken) (k limits given taken f)

-- parts handed out, and nothing more given
pub handed_out : (old new : Composer) (ps : List PartValue) → KeepsFed old new [] ps → (limits : Limits) (given : List Item) (taken : List PartValue) → Fed limits old given taken → Fed limits new given (taken ++ ps)
handed_out old new ps k limits given taken f = subst (λ (items : List Item). Fed limits new items (taken ++ ps)) (append-nil given) (k limits given taken f)

-- ---- behind a fault

pub closed_at : (s : State) (f : Fault) → fault_of_state s ≡ Some f → is_open s ≡ false
closed_at (Leading lead) f e = absurd cc
closed_at (Growing c) f e = absurd cc
closed_at (Disordered g) f e = refl
closed_at (Broken g) f e = refl
closed_at Spent f e = refl

pub closed_by : (s : State) → IsSome (fault_of_state s) → is_open s ≡ false
closed_by (Leading lead) h = absurd cc
closed_by (Growing c) h = absurd cc
closed_by (Disordered g) h = refl
closed_by (Broken g) h = refl
closed_by Spent h = refl

pub same_stays : (old new : Composer) → (is_open old.state ≡ false → new.state ≡ old.state) → StaysFaulty old new
same_stays old new h fault e = inl (ap fault_of_state (h (closed_at old.state fault e)) ∙ e)

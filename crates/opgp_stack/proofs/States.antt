-- How a run goes that writes states.
use Rattle.std.proofs.Common.{◌≡◌, ◌∙◌, ◌⊎◌, inl, inr, ℕ, Bool, List, ap, refl, subst, sym, Option, Some, None, Result, Ok, Err}
use Rattle.std.specs.Borrow.{Bor}
use Rattle.std.specs.Option.{option_map}
use Rattle.opgp_keyring.specs.Keyring.{KeyringValue}
use Rattle.opgp_merge.specs.Merged.{merged_of}
use Rattle.opgp_report.specs.declared.verifier.Verdict.{Verdict}
use Rattle.opgp_valid.specs.declared.cause.Cause.{Cause}
use Rattle.opgp_valid.specs.declared.policy.Policy.{Policy}
use Rattle.opgp_state.specs.Claimed.{claims_of}
use Rattle.opgp_valid.specs.declared.states.PartState.{PartState}
use Rattle.opgp_state.specs.KeyringStates.{keyring_causes, keyring_states}
use Rattle.opgp_state.specs.StateLines.{lines_from}
use Rattle.opgp_state.specs.VerdictFile.{HasVerdicts}
use Rattle.opgp_state.specs.declared.basis.Basis.{Basis}
use Rattle.opgp_state.specs.declared.basis.Basis.TheVariants.{Claims, Verdicts}
use Rattle.opgp_codec.specs.Keyrings.{ComposesTo, key_label}
use Rattle.opgp_codec.specs.Pulled.{OfAll}
use Rattle.opgp_codec.specs.Reading.{AnswerOf, Outcome}
use Rattle.opgp_octets.specs.declared.fault.Fault.{Fault}
use Rattle.opgp_stack.specs.declared.run_fault.RunFault.{RunFault}
use Rattle.opgp_stack.specs.declared.run_fault.RunFault.TheVariants as run
use Rattle.opgp_stack.specs.declared.stating.StateTask.{StateTask}
use Rattle.opgp_stack.specs.Running.{IsMade, Made, OtherVerdicts, Refused, RunsOf, Text, lacks, makes}
use Rattle.opgp_stack.specs.Stating.{AreStates, OfStates}
use Rattle.opgp_codec.proofs.Pulling.{of_all}
use Rattle.opgp_stack.proofs.Runs.{ran_of}

-- what is read
abbrev pub RingOf : StateTask → List ℕ → Outcome KeyringValue → Type 0
RingOf task octets answer = AnswerOf key_label (ComposesTo task.limits) task.mode task.limits octets answer

module _ {R W : Type 0} (left : R → Option (List ℕ)) (has_failed : R → Bool) (held : W → Option (List ℕ)) (failed : W → Bool) (reader reader' : R) (writer : W) (task : StateTask) (file : Option (List ℕ)) where
  -- the states of the keyring are written, or memory ran out
  pub states_ran : (writer' : W) (r : KeyringValue) (result : Result Unit RunFault) → OfAll left has_failed reader reader' task.limits (λ octets. RingOf task octets (Ok r))
      → ((result ≡ Err run.Memory) × (writer' ≡ writer)) ⊎ ((made : Made) × AreStates task.values task.policy task.at file (merged_of r) made × IsMade held failed writer writer' result made)
      → RunsOf left has_failed (IsMade held failed) task.limits (OfStates task file) reader reader' writer writer' result
  states_ran writer' r result read (inl h) = lacks h.0 read.sound h.1
  states_ran writer' r result read (inr (made, are, is)) = ran_of (RingOf task) (λ fault. (refl, refl)) writer' result result r (λ octets h. (made, (Ok r, h, are), is)) read refl

  -- or the input is refused
  pub states_refused : (fault : Fault) → OfAll left has_failed reader reader' task.limits (λ octets. RingOf task octets (Err fault)) → RunsOf left has_failed (IsMade held failed) task.limits (OfStates task file) reader reader' writer writer (Err (run.Refused fault))
  states_refused fault read = makes (of_all left has_failed reader reader' task.limits _ _ (λ octets h. (Refused fault, (Err fault, h, refl), (refl, refl))) read)

-- ---- which states
module _ (values : Bool) (policy : Policy) (at : ℕ) (r : KeyringValue) where
  -- the text of these states and causes
  same_text : (basis : Basis) (states states' : List (List PartState)) (causes causes' : List (List (Option Cause))) → states ≡ states' → causes ≡ causes'
      → Text (lines_from basis values 0 r.certificates states causes) ≡ Text (lines_from basis values 0 r.certificates states' causes')
  same_text basis states states' causes causes' e f =
      ap (λ (l : List (List PartState)). Text (lines_from basis values 0 r.certificates l causes)) e
      ∙ ap (λ (l : List (List (Option Cause))). Text (lines_from basis values 0 r.certificates states' l)) f

  pub claimed_states : (file : Option (Bor (List ℕ))) (states : List (List PartState)) (causes : List (List (Option Cause))) → file ≡ None
      → states ≡ keyring_states r (claims_of r) policy at → causes ≡ keyring_causes values r (claims_of r) policy at
      → AreStates values policy at (option_map (λ f. f.now) file) r (Text (lines_from Claims values 0 r.certificates states causes))
  claimed_states None states causes e is why = same_text Claims states _ causes _ is why
  claimed_states (Some f) states causes e is why = cc e

  pub said_states : (file : Option (Bor (List ℕ))) (f : Bor (List ℕ)) (verdicts : List Verdict) (states : List (List PartState)) (causes : List (List (Option Cause))) → file ≡ Some f → HasVerdicts f.now r verdicts
      → states ≡ keyring_states r verdicts policy at → causes ≡ keyring_causes values r verdicts policy at
      → AreStates values policy at (option_map (λ f. f.now) file) r (Text (lines_from Verdicts values 0 r.certificates states causes))
  said_states None f verdicts states causes e has is why = cc e
  said_states (Some g) f verdicts states causes e has is why =
      let same : g ≡ f = cc e in
      inl (verdicts, subst (λ (x : Bor (List ℕ)). HasVerdicts x.now r verdicts) (sym same) has, same_text Verdicts states _ causes _ is why)

  pub other_states : (file : Option (Bor (List ℕ))) (f : Bor (List ℕ)) → file ≡ Some f → ((verdicts : List Verdict) → HasVerdicts f.now r verdicts → ⊥) → AreStates values policy at (option_map (λ f. f.now) file) r OtherVerdicts
  other_states None f e is = cc e
  other_states (Some g) f e is = let same : g ≡ f = cc e in inr (subst (λ (x : Bor (List ℕ)). (verdicts : List Verdict) → HasVerdicts x.now r verdicts → ⊥) (sym same) is, refl)

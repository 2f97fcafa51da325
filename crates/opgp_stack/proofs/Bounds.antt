-- How a run goes that writes bound parts.
use Rattle.std.proofs.Common.{◌≡◌, ◌⊎◌, inl, inr, ℕ, Bool, List, ap, refl, Option, Result, Ok, Err}
use Rattle.opgp_octets.specs.declared.fault.Fault.{Fault}
use Rattle.opgp_keyring.specs.Keyring.{KeyringValue, flat}
use Rattle.opgp_report.specs.declared.verifier.Verdict.{Verdict}
use Rattle.opgp_merge.specs.Chosen.{chosen_keyring}
use Rattle.opgp_merge.specs.Merged.{merged_of}
use Rattle.opgp_state.specs.VerdictFile.{HasVerdicts}
use Rattle.opgp_codec.specs.Keyrings.{ComposesTo, key_label}
use Rattle.opgp_codec.specs.Pulled.{OfAll}
use Rattle.opgp_codec.specs.Reading.{AnswerOf, Outcome}
use Rattle.opgp_codec.specs.Writing.{packets_text}
use Rattle.opgp_codec.proofs.Pulling.{of_all}
use Rattle.opgp_stack.specs.Bounding.{IsBoundOf, OfBound, bound_then}
use Rattle.opgp_stack.specs.Running.{IsMade, Made, Refused, RunsOf, Text, lacks, makes}
use Rattle.opgp_stack.specs.declared.bounding.BoundTask.{BoundTask}
use Rattle.opgp_stack.specs.declared.run_fault.RunFault.{RunFault}
use Rattle.opgp_stack.specs.declared.run_fault.RunFault.TheVariants as run
use Rattle.opgp_stack.proofs.Runs.{ran_of}

-- what is read
abbrev pub RingFor : BoundTask → List ℕ → Outcome KeyringValue → Type 0
RingFor task octets answer = AnswerOf key_label (ComposesTo task.limits) task.mode task.limits octets answer

module _ {R W : Type 0} (left : R → Option (List ℕ)) (has_failed : R → Bool) (held : W → Option (List ℕ)) (failed : W → Bool) (reader reader' : R) (writer : W) (task : BoundTask) (file : List ℕ) where
  -- the bound parts of the keyring are written, or memory ran out
  pub bound_ran : (writer' : W) (r : KeyringValue) (result : Result Unit RunFault) → OfAll left has_failed reader reader' task.limits (λ octets. RingFor task octets (Ok r))
      → ((result ≡ Err run.Memory) × (writer' ≡ writer)) ⊎ ((made : Made) × IsBoundOf task file (merged_of r) made × IsMade held failed writer writer' result made)
      → RunsOf left has_failed (IsMade held failed) task.limits (OfBound task file) reader reader' writer writer' result
  bound_ran writer' r result read (inl h) = lacks h.0 read.sound h.1
  bound_ran writer' r result read (inr (made, are, is)) = ran_of (RingFor task) (λ fault. (refl, refl)) writer' result result r (λ octets h. (made, (Ok r, h, are), is)) read refl

  -- or the input is refused
  pub bound_refused : (fault : Fault) → OfAll left has_failed reader reader' task.limits (λ octets. RingFor task octets (Err fault)) → RunsOf left has_failed (IsMade held failed) task.limits (OfBound task file) reader reader' writer writer (Err (run.Refused fault))
  bound_refused fault read = makes (of_all left has_failed reader reader' task.limits _ _ (λ octets h. (Refused fault, (Err fault, h, refl), (refl, refl))) read)

-- what is bound by the verdicts of a file
pub bound_said : (task : BoundTask) (file : List ℕ) (r chosen : KeyringValue) (verdicts : List Verdict) → HasVerdicts file r verdicts
    → chosen ≡ chosen_keyring task.choice (bound_then task.newest_at r verdicts) → IsBoundOf task file r (Text (packets_text task.out (flat chosen)))
bound_said task file r chosen verdicts has is = inl (verdicts, has, ap (λ (s : KeyringValue). Text (packets_text task.out (flat s))) is)

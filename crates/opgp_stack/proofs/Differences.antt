-- How a run goes that writes what changed.
use Rattle.std.proofs.Common.{◌≡◌, ℕ, Bool, List, refl, Option, Result, Ok, Err}
use Rattle.opgp_keyring.specs.Keyring.{KeyringValue}
use Rattle.opgp_codec.specs.Keyrings.{ComposesTo, key_label}
use Rattle.opgp_codec.specs.Pulled.{OfAll}
use Rattle.opgp_codec.specs.Reading.{AnswerOf, Outcome}
use Rattle.opgp_codec.specs.declared.mode.Mode.{Mode}
use Rattle.opgp_octets.specs.declared.fault.Fault.{Fault}
use Rattle.opgp_octets.specs.declared.limits.Limits.{Limits}
use Rattle.opgp_stack.specs.declared.run_fault.RunFault.{RunFault}
use Rattle.opgp_stack.specs.declared.run_fault.RunFault.TheVariants as run
use Rattle.opgp_stack.specs.Differing.{OfDifference, difference_lines}
use Rattle.opgp_stack.specs.Running.{IsMade, Refused, RunsOf, Text, makes}
use Rattle.opgp_codec.proofs.Pulling.{of_all}
use Rattle.opgp_stack.proofs.Runs.{ran_of}

module _ {R W : Type 0} (left : R → Option (List ℕ)) (has_failed : R → Bool) (held : W → Option (List ℕ)) (failed : W → Bool) (reader reader' : R) (writer : W) (old : KeyringValue) (mode : Mode) (limits : Limits) where
  -- what is read
  abbrev pub RingOf : List ℕ → Outcome KeyringValue → Type 0
  RingOf octets answer = AnswerOf key_label (ComposesTo limits) mode limits octets answer

  -- the lines are written
  pub difference_ran : (writer' : W) (r : KeyringValue) (result ended : Result Unit RunFault) → OfAll left has_failed reader reader' limits (λ octets. RingOf octets (Ok r)) → result ≡ ended
      → IsMade held failed writer writer' ended (Text (difference_lines old r))
      → RunsOf left has_failed (IsMade held failed) limits (OfDifference old mode limits) reader reader' writer writer' result
  difference_ran writer' r result ended read same is = ran_of RingOf (λ fault. (refl, refl)) writer' result ended r (λ octets h. (Text (difference_lines old r), (Ok r, h, refl), is)) read same

  -- or the input is refused
  pub difference_refused : (fault : Fault) → OfAll left has_failed reader reader' limits (λ octets. RingOf octets (Err fault)) → RunsOf left has_failed (IsMade held failed) limits (OfDifference old mode limits) reader reader' writer writer (Err (run.Refused fault))
  difference_refused fault read = makes (of_all left has_failed reader reader' limits _ _ (λ octets h. (Refused fault, (Err fault, h, refl), (refl, refl))) read)

-- How the parts of a keyring stand, as a run writes it.
use Rattle.std.specs.Prelude.{◌≡◌, ℕ, ◌⊎◌, Bool, List, Option, Some, None}
use Rattle.std.specs.Prelude.{Ok, Err}
use Rattle.opgp_report.specs.declared.verifier.Verdict.{Verdict}
use Rattle.opgp_keyring.specs.Keyring.{KeyringValue}
use Rattle.opgp_merge.specs.Merged.{merged_of}
use Rattle.opgp_valid.specs.declared.policy.Policy.{Policy}
use Rattle.opgp_state.specs.Claimed.{claims_of}
use Rattle.opgp_state.specs.StateLines.{state_lines}
use Rattle.opgp_state.specs.VerdictFile.{HasVerdicts}
use Rattle.opgp_state.specs.declared.basis.Basis.TheVariants.{Claims, Verdicts}
use Rattle.opgp_codec.specs.Keyrings.{ComposesTo, key_label}
use Rattle.opgp_codec.specs.Reading.{AnswerOf, Outcome}
use Rattle.opgp_stack.specs.Running.{Made, Text, Refused, OtherVerdicts}
use Rattle.opgp_stack.specs.declared.stating.StateTask.{StateTask}

-- of a keyring: by what its signatures claim; or by a file of verdicts on them, if it is one
abbrev pub AreStates : Bool → Policy → ℕ → Option (List ℕ) → KeyringValue → Made → Type 0
AreStates values policy at None r made =
    made ≡ Text (state_lines Claims values r (claims_of r) policy at)
AreStates values policy at (Some file) r made =
    ((verdicts : List Verdict) × HasVerdicts file r verdicts
    × (made ≡ Text (state_lines Verdicts values r verdicts policy at)))
    ⊎ (((verdicts : List Verdict) → HasVerdicts file r verdicts → ⊥) × (made ≡ OtherVerdicts))

-- of what is read, with its certificates of one primary key merged; a refusal stays one
abbrev pub AreStatesOf : StateTask → Option (List ℕ) → Outcome KeyringValue → Made → Type 0
AreStatesOf task file (Ok r) made =
    AreStates task.values task.policy task.at file (merged_of r) made
AreStatesOf task file (Err fault) made = made ≡ Refused fault

-- what a task makes of octets
abbrev pub OfStates : StateTask → Option (List ℕ) → List ℕ → Made → Type 0
OfStates task file octets made = (answer : Outcome KeyringValue)
    × AnswerOf key_label (ComposesTo task.limits) task.mode task.limits octets answer
    × AreStatesOf task file answer made

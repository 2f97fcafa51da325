-- The bound parts of a keyring, as a run writes them.
use Rattle.std.specs.Prelude.{◌≡◌, ◌⊎◌, ℕ, List, Option, Some, None, Ok, Err}
use Rattle.opgp_report.specs.declared.verifier.Verdict.{Verdict}
use Rattle.opgp_keyring.specs.Keyring.{KeyringValue, flat}
use Rattle.opgp_merge.specs.Chosen.{chosen_keyring}
use Rattle.opgp_merge.specs.Merged.{merged_of}
use Rattle.opgp_bound.specs.Bound.{bound_keyring}
use Rattle.opgp_bound.specs.Newest.{newest_keyring, newest_verdicts}
use Rattle.opgp_state.specs.VerdictFile.{HasVerdicts}
use Rattle.opgp_codec.specs.Keyrings.{ComposesTo, key_label}
use Rattle.opgp_codec.specs.Reading.{AnswerOf, Outcome}
use Rattle.opgp_codec.specs.Writing.{packets_text}
use Rattle.opgp_stack.specs.Running.{Made, Text, Refused, OtherVerdicts}
use Rattle.opgp_stack.specs.declared.bounding.BoundTask.{BoundTask}

-- what is bound of a keyring, by the verdicts on it; where there is a time, of the self-signatures
-- only those that are heard then
abbrev pub bound_then : Option ℕ → KeyringValue → List Verdict → KeyringValue
bound_then None r verdicts = bound_keyring r verdicts
bound_then (Some at) r verdicts =
    bound_keyring (newest_keyring r verdicts at) (newest_verdicts r verdicts at)

-- of a keyring: by a file of verdicts on it the chosen parts of what is bound, if it is such a file
abbrev pub IsBoundOf : BoundTask → List ℕ → KeyringValue → Made → Type 0
IsBoundOf task file r made = ((verdicts : List Verdict) × HasVerdicts file r verdicts
    × (made ≡ Text (packets_text task.out
    (flat (chosen_keyring task.choice (bound_then task.newest_at r verdicts))))))
    ⊎ (((verdicts : List Verdict) → HasVerdicts file r verdicts → ⊥) × (made ≡ OtherVerdicts))

-- of what is read, with its certificates of one primary key merged; a refusal stays one
abbrev pub IsBoundIn : BoundTask → List ℕ → Outcome KeyringValue → Made → Type 0
IsBoundIn task file (Ok r) made = IsBoundOf task file (merged_of r) made
IsBoundIn task file (Err fault) made = made ≡ Refused fault

-- what a task makes of octets
abbrev pub OfBound : BoundTask → List ℕ → List ℕ → Made → Type 0
OfBound task file octets made = (answer : Outcome KeyringValue)
    × AnswerOf key_label (ComposesTo task.limits) task.mode task.limits octets answer
    × IsBoundIn task file answer made

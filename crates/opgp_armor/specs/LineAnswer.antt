-- What functions return for one line, by the contents of vectors, against the machine.
use Rattle.std.specs.Prelude.{◌≡◌, ℕ, List, take}
use denote.Ref.{Bor}
use Rattle.std.specs.declared.option.Option.{Option}
use Rattle.std.specs.declared.option.Option.TheVariants.{None, Some}
use Rattle.std.specs.declared.result.Result.{Result}
use Rattle.std.specs.declared.result.Result.TheVariants.{Ok, Err}
use Rattle.opgp_octets.specs.declared.fault.Reason.{Reason}
use Rattle.opgp_armor.specs.declared.section.Section.{Section}
use Rattle.opgp_armor.specs.declared.pending.Pending.{Pending as StoredPending}
use Rattle.opgp_armor.specs.declared.letters.Letters.{Letters}
use Rattle.opgp_armor.specs.declared.lines.Reaction.{Reaction}
use Rattle.opgp_armor.specs.declared.refusal.Refusal.{Refusal}
use Rattle.opgp_armor.specs.declared.refusal.Refusal.TheVariants as refusal
use Rattle.opgp_armor.specs.Letters.{Pending}
use Rattle.opgp_armor.specs.Events.{events_of}
use Rattle.opgp_armor.specs.Machine.{State, Answer}

-- the letters left over, as a list
abbrev pub pending_of : StoredPending → Pending
pending_of p = record { letters = take p.count p.letters; padded = p.padded }

abbrev pub state_of : Section → StoredPending → State
state_of section p = record { section = section; pending = pending_of p }

-- a key and a value, as lists
abbrev pub header_view : Option (Bor (List ℕ) × Bor (List ℕ)) → Option (List ℕ × List ℕ)
header_view None = None
header_view (Some (key, value)) = Some (key.now, value.now)

-- what a data line yields is the definition's, unless memory ran out
abbrev pub AnswersLetters : Result Letters Refusal → Result (Pending × List ℕ) Reason → Type 0
AnswersLetters (Ok p) a = a ≡ Ok (pending_of p.pending, p.octets.items)
AnswersLetters (Err (refusal.Reason e)) a = a ≡ Err e
AnswersLetters (Err refusal.Memory) a = Unit {0}

-- the outcome is the machine's, unless memory ran out
abbrev pub IsAnswer : Result Reaction Refusal → Answer → Type 0
IsAnswer (Ok r) a = a ≡ Ok (state_of r.section r.pending, events_of r.event)
IsAnswer (Err (refusal.Reason e)) a = a ≡ Err e
IsAnswer (Err refusal.Memory) a = Unit {0}

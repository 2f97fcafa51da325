-- Which octets a reader has been given, and which events were taken from it.
use Rattle.std.specs.Prelude.{◌≡◌, ◌↔◌, ℕ, ◌+◌, ◌<◌, Bool, false, List, [], ◌∷◌, ◌++◌, length, take}
use Rattle.std.specs.Prelude.{is_some}
use Rattle.std.specs.declared.option.Option.{Option}
use Rattle.std.specs.declared.option.Option.TheVariants.{None, Some}
use Rattle.std.specs.declared.result.Result.TheVariants.{Ok, Err}
use Rattle.opgp_octets.specs.Octets.{IsOctets}
use Rattle.opgp_octets.specs.declared.fault.Fault.{Fault}
use Rattle.opgp_octets.specs.declared.fault.Layer.TheVariants as layer
use Rattle.opgp_octets.specs.declared.fault.Reason.{Reason}
use Rattle.opgp_octets.specs.declared.fault.Reason.TheVariants as reason
use Rattle.opgp_armor.specs.declared.reader.Dearmor.{Dearmor}
use Rattle.opgp_armor.specs.Rules.{LineRule}
use Rattle.opgp_armor.specs.Text.{Line, offset}
use Rattle.opgp_armor.specs.Events.{Event, built, events_of, ends_in, octets_held}
use Rattle.opgp_armor.specs.Machine.{Answer, Run, run, step}
use Rattle.opgp_armor.specs.LineAnswer.{pending_of, state_of}
use Rattle.opgp_armor.specs.Cuts.{cut, lines_ended, kept}
use Rattle.opgp_armor.specs.Shown.{Shown}

-- the most octets of a line
abbrev pub line_limit_of : Dearmor → ℕ
line_limit_of d = d.limit

-- what lines may be
abbrev pub rule_of : Dearmor → LineRule
rule_of d = record { most = d.limit; outside = d.outside }

-- an event is ready to be taken
abbrev pub is_ready : Dearmor → Bool
is_ready d = is_some d.ready

-- how many octets the pushes have taken
abbrev pub count_of : Dearmor → ℕ
count_of d = d.given

-- a push, or the end of the text, ran out of memory
abbrev pub is_spent : Dearmor → Bool
is_spent d = d.spent

-- the text has ended
abbrev pub has_ended : Dearmor → Bool
has_ended d = d.ended

-- the fault that a line has
abbrev pub fault_of : Dearmor → Option Fault
fault_of d = d.fault

-- the octets that the reader keeps
abbrev pub held_of : Dearmor → ℕ
held_of d = octets_held d.buffer.items (pending_of d.pending).letters d.ready

-- the octets that lie in the memory that lines use in turn, which mean nothing; no other field is a
-- list
abbrev pub spare_of : Dearmor → ℕ
spare_of d = length d.spare.octets.items + length d.spare.letters.items

-- what a spent reader reports in the end
abbrev pub spent_fault : Fault
spent_fault =
    record { layer = layer.Armor; reason = reason.Spent; block = 0; pos = 0; inner = 0 }

-- The reader goes on: it is in the state of the run over the ended lines.
pub record Going (d : Dearmor) (given : List ℕ) (taken : List Event) : Type 0 where
  pub last : Run
  pub ran : run (rule_of d) (lines_ended d.ended given) ≡ Ok last
  pub state : last.state ≡ state_of d.section d.pending
  pub events : last.events ≡ taken ++ events_of d.ready
  pub buffered : d.ended ≡ false → d.buffer.items ≡ kept (rule_of d) d.section (cut given).tail
  pub begins : d.ended ≡ false → d.start ≡ offset (cut given).ended
  pub finished : d.finished ≡ length (built last.events).blocks

-- The reader has reached a line that the machine refuses.
pub record Stopped (d : Dearmor) (fault : Fault) (given : List ℕ)
    (taken : List Event) : Type 0 where
  pub before : List Line
  pub line : Line
  pub after : List Line
  pub last : Run
  pub are : lines_ended d.ended given ≡ before ++ line ∷ after
  pub ran : run (rule_of d) before ≡ Ok last
  pub stops : step (rule_of d) last.state line ≡ Err fault.reason
  pub events : last.events ≡ taken ++ events_of d.ready
  pub pos : fault.pos ≡ offset before
  pub block : fault.block ≡ length (built last.events).blocks
  pub in_armor : fault.layer ≡ layer.Armor
  pub inner : fault.inner ≡ 0

abbrev pub Stands : Dearmor → Option Fault → List ℕ → List Event → Type 0
Stands d None given taken = Going d given taken
Stands d (Some fault) given taken = Stopped d fault given taken

-- The reader was given these octets, and these events were taken from it.
pub record Fed (d : Dearmor) (given : List ℕ) (taken : List Event) : Type 0 where
  pub sound : d.spent ≡ false
  pub octets : IsOctets given
  pub count : d.given ≡ length given
  pub stands : Stands d d.fault given taken

-- Whatever the old reader was given and had handed out, the new one was also given these octets and
-- has also handed out these events.
abbrev pub KeepsFed : Dearmor → Dearmor → List ℕ → List Event → Type 0
KeepsFed old new octets events =
    (given : List ℕ) (taken : List Event) → Fed old given taken
    → Fed new (given ++ octets) (taken ++ events)

-- The new reader says all that the old one says: it was given the same octets, the same events were
-- taken from it, and it holds as many octets.
pub record SaysTheSame (old new : Dearmor) : Type 0 where
  pub fed : (given : List ℕ) (taken : List Event) → Fed old given taken ↔ Fed new given taken
  pub ready : is_ready new ≡ is_ready old
  pub count : count_of new ≡ count_of old
  pub spent : is_spent new ≡ is_spent old
  pub ended : has_ended new ≡ has_ended old
  pub fault : fault_of new ≡ fault_of old
  pub limit : line_limit_of new ≡ line_limit_of old
  pub rule : rule_of new ≡ rule_of old
  pub held : held_of new ≡ held_of old

-- The first n octets of the piece, without the last, yield no event beyond those that were taken.
abbrev pub IsQuiet : Dearmor → List ℕ → ℕ → Type 0
IsQuiet d piece n = (k : ℕ) → k < n → (given : List ℕ) (taken : List Event) → Fed d given taken
    → Shown (rule_of d) (lines_ended false (given ++ take k piece)) taken

-- the events that were taken, and what is ready
abbrev pub events_so_far : Dearmor → List Event → List Event
events_so_far d taken = taken ++ events_of d.ready

-- ---- the end of a line
abbrev pub fault_at : Reason → ℕ → ℕ → Fault
fault_at why block pos =
    record { layer = layer.Armor; reason = why; block = block; pos = pos; inner = 0 }

-- what doesn't change at the end of a line
pub record SameReader (old new : Dearmor) : Type 0 where
  pub rule : rule_of new ≡ rule_of old
  pub given : count_of new ≡ count_of old
  pub spent : is_spent new ≡ is_spent old
  pub ended : has_ended new ≡ has_ended old

-- the line had this outcome
abbrev pub AfterLine : Dearmor → Dearmor → Answer → Type 0
AfterLine old new (Ok (s, more)) =
    (s ≡ state_of new.section new.pending) × (more ≡ events_of new.ready) × (new.fault ≡ None)
    × (new.finished ≡ old.finished + ends_in more) × (new.buffer.items ≡ [])
    × (new.start ≡ old.given)
AfterLine old new (Err e) =
    (new.fault ≡ Some (fault_at e old.finished old.start)) × (new.ready ≡ None)

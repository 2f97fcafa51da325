-- Armor line by line: the plain definition that the code follows.
use Rattle.std.specs.Prelude.{ℕ, nat_lt, Bool, not, if◌then◌else◌, List, [], ◌∷◌}
use Rattle.std.specs.Prelude.{◌++◌, ◌+◌, length, take}
use Rattle.std.specs.List.{fold}
use Rattle.std.specs.Str.{bytes_eq}
use Rattle.std.specs.declared.option.Option.{Option}
use Rattle.std.specs.declared.option.Option.TheVariants.{None, Some}
use Rattle.std.specs.declared.result.Result.{Result}
use Rattle.std.specs.declared.result.Result.TheVariants.{Ok, Err}
use Rattle.opgp_armor.specs.declared.label.Label.{Label}
use Rattle.opgp_armor.specs.declared.section.Section.{Section}
use Rattle.opgp_armor.specs.declared.section.Section.TheVariants as sections
use Rattle.opgp_octets.specs.declared.fault.Reason.{Reason}
use Rattle.opgp_octets.specs.declared.fault.Reason.TheVariants as reason
use Rattle.opgp_octets.specs.declared.outside.Outside.{Outside}
use Rattle.opgp_octets.specs.declared.outside.Outside.TheVariants as policy
use Rattle.opgp_armor.specs.Letters.{is_equals, Pending, no_letters, data_line}
use Rattle.opgp_armor.specs.Rules.{LineRule}
use Rattle.opgp_armor.specs.Text.{Line, content, begin_line, end_line}
use Rattle.opgp_armor.specs.Armored.{is_colon, is_dash, is_space, label_at, passes_by}
use Rattle.opgp_armor.specs.Events.{Event, Begin, Header, Octets, End}

pub record State : Type 0 where
  pub section : Section
  pub pending : Pending

abbrev pub put_key : ℕ → Option (List ℕ × List ℕ) → Option (List ℕ × List ℕ)
put_key c None = None
put_key c (Some (key, value)) = Some (c ∷ key, value)

-- the parts around the first colon
unfoldable pub at_colon : List ℕ → Option (List ℕ × List ℕ)
at_colon [] = None
at_colon (c ∷ cs) = if is_colon c then Some ([], cs) else put_key c (at_colon cs)

abbrev pub without_space : List ℕ → List ℕ
without_space [] = []
without_space (c ∷ cs) = if is_space c then cs else c ∷ cs

abbrev pub named : Option (List ℕ × List ℕ) → Option (List ℕ × List ℕ)
named None = None
named (Some ([], value)) = None
named (Some (c ∷ key, value)) = Some (c ∷ key, without_space value)

-- the header of a line
abbrev pub header_of : List ℕ → Option (List ℕ × List ℕ)
header_of c = named (at_colon c)

abbrev pub Answer : Type 0
Answer = Result (State × List Event) Reason

abbrev pub on_begin : Option Label → Answer
on_begin None = Err reason.Label
on_begin (Some l) = Ok (record { section = sections.Headers l; pending = no_letters }, Begin l ∷ [])

abbrev pub on_header : Label → Pending → Option (List ℕ × List ℕ) → Answer
on_header l p None = Err reason.Header
on_header l p (Some (key, value)) =
    Ok (record { section = sections.Headers l; pending = p }, Header key value ∷ [])

abbrev pub some_octets : List ℕ → List Event
some_octets [] = []
some_octets (o ∷ os) = Octets (o ∷ os) ∷ []

abbrev pub on_letters : Label → Result (Pending × List ℕ) Reason → Answer
on_letters l (Err e) = Err e
on_letters l (Ok (p, octets)) =
    Ok (record { section = sections.Data l; pending = p }, some_octets octets)

abbrev pub waits : Pending → Bool
waits p = nat_lt 0 (length p.letters)

-- the end line, after data or a checksum line
unfoldable pub closing : Label → Pending → List ℕ → Answer
closing l p c =
    if not (bytes_eq c (end_line l)) then Err reason.EndLabel
    else if waits p then Err reason.Padding
    else Ok (record { section = sections.Outside; pending = no_letters }, End ∷ [])

-- a line of a block, by its content
abbrev pub inside : Section → Pending → List ℕ → Answer
inside sections.Outside p c = on_begin (label_at begin_line c)
inside (sections.Headers l) p [] = Ok (record { section = sections.Data l; pending = p }, [])
inside (sections.Headers l) p (c ∷ cs) = on_header l p (header_of (c ∷ cs))
inside (sections.Data l) p [] = Ok (record { section = sections.Data l; pending = p }, [])
inside (sections.Data l) p (c ∷ cs) =
    if is_equals c then (
    if waits p then Err reason.Padding
    else Ok (record { section = sections.AfterChecksum l; pending = p }, [])
    )
    else if is_dash c then closing l p (c ∷ cs)
    else on_letters l (data_line p (c ∷ cs))
inside (sections.AfterChecksum l) p [] =
    Ok (record { section = sections.AfterChecksum l; pending = p }, [])
inside (sections.AfterChecksum l) p (c ∷ cs) =
    if is_dash c then closing l p (c ∷ cs) else Err reason.AfterChecksum

-- a line outside whose first octets have this content
abbrev pub on_blank : List ℕ → Answer → Answer
on_blank [] answer = answer
on_blank (c ∷ cs) answer = Err reason.Outside

-- a line outside of all blocks that doesn't begin one
abbrev pub on_outside : Outside → ℕ → State → Line → Answer
on_outside policy.Skip limit s l = Ok (s, [])
on_outside policy.Refuse limit s l =
    on_blank (content (take (limit + 1) l))
    (if nat_lt limit (length l) then Err reason.LineTooLong else Ok (s, []))

-- one line
unfoldable pub step : LineRule → State → Line → Answer
step rule s l =
    if passes_by s.section l then on_outside rule.outside rule.most s l
    else if nat_lt rule.most (length l) then Err reason.LineTooLong
    else inside s.section s.pending (content l)

abbrev pub start : State
start = record { section = sections.Outside; pending = no_letters }

-- the state after lines, and the events that they yield
pub record Run : Type 0 where
  pub state : State
  pub events : List Event

abbrev pub onward : List Event → Answer → Result Run Reason
onward events (Err e) = Err e
onward events (Ok (s, more)) = Ok (record { state = s; events = events ++ more })

abbrev pub next : LineRule → Result Run Reason → Line → Result Run Reason
next rule (Err e) l = Err e
next rule (Ok r) l = onward r.events (step rule r.state l)

unfoldable pub run_from : LineRule → Result Run Reason → List Line → Result Run Reason
run_from rule r ls = fold (next rule) r ls

abbrev pub first : Run
first = record { state = start; events = [] }

abbrev pub run : LineRule → List Line → Result Run Reason
run rule ls = run_from rule (Ok first) ls

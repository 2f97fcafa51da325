-- Events have no more octets than the text that they come of.
use Rattle.std.proofs.Common.{◌≡◌, ℕ, ◌+◌, ◌<◌, ◌≤◌, Bool, true, false, ◌==◌, List, [], ◌∷◌, ◌++◌, length, sum_by, refl, ap, arith, inl, inr, Option, None, Some, Ok}
use Rattle.std.proofs.lemmas.List.{length-append}
use Rattle.std.proofs.lemmas.List.Sums.{sum_by-append}
use Rattle.std.proofs.lemmas.Bool.{cases_Bool}
use Rattle.std.specs.List.{fold, list_all}
use Rattle.opgp_octets.specs.declared.fault.Fault.{Fault}
use Rattle.opgp_armor.specs.Rules.{LineRule}
use Rattle.opgp_armor.specs.declared.reader.Dearmor.{Dearmor}
use Rattle.opgp_armor.specs.Letters.{is_letter}
use Rattle.opgp_armor.specs.declared.section.Section.{Section}
use Rattle.opgp_armor.specs.declared.section.Section.TheVariants.{Outside, Headers, Data, AfterChecksum}
use Rattle.opgp_armor.specs.Armored.{Block, Situation, after_line, begins_with, ended_by, is_dash, situation}
use Rattle.opgp_armor.specs.Text.{Line, content, onto, lines, offset}
use Rattle.opgp_armor.specs.Events.{Event, Begin, Header, Octets, End, Built, absorb, built, open_block, nothing_built, events_of, event_octets}
use Rattle.opgp_armor.specs.Machine.{State, Run, step, first, run}
use Rattle.opgp_armor.specs.Cuts.{cut, lines_ended}
use Rattle.opgp_armor.specs.Fed.{Fed, Stands, rule_of}
use Rattle.opgp_armor.proofs.Small.{step_shrinks}
use Rattle.opgp_armor.proofs.Answer.{run_keeps, tracks}
use Rattle.opgp_armor.proofs.Feeding.{blocks_end, cut_length}
use Rattle.opgp_armor.proofs.Sound.{built_more}

-- ---- events
events_both : (es fs : List Event) → event_octets (es ++ fs) ≡ event_octets es + event_octets fs
events_both [] fs = omega arith
events_both (Begin l ∷ es) fs = events_both es fs
events_both (Header key value ∷ es) fs = omega (arith, events_both es fs)
events_both (Octets o ∷ es) fs = omega (arith, events_both es fs)
events_both (End ∷ es) fs = events_both es fs

fold_few : (b : Built) (es : List Event) → length (fold absorb b es).octets ≤ length b.octets + event_octets es
fold_few b [] = omega arith
fold_few b (Begin l ∷ es) = omega (arith, fold_few (absorb b (Begin l)) es)
fold_few b (Header key value ∷ es) = omega (arith, fold_few (absorb b (Header key value)) es)
fold_few b (Octets o ∷ es) = omega (arith, fold_few (absorb b (Octets o)) es, length-append b.octets o)
fold_few b (End ∷ es) = omega (arith, fold_few (absorb b End) es)

-- the open block has no more octets than the events
built_few : (es more : List Event) → length (built es).octets + event_octets more ≤ event_octets (es ++ more)
unfolding built
built_few es more = omega (arith, fold_few nothing_built es, events_both es more)

block_octets : List Block → ℕ
block_octets bs = sum_by (λ b. length b.octets) bs

fold_blocks : (b : Built) (es : List Event)
    → block_octets (fold absorb b es).blocks + length (fold absorb b es).octets ≤ block_octets b.blocks + length b.octets + event_octets es
unfolding block_octets
fold_blocks b [] = omega arith
fold_blocks b (Begin l ∷ es) = omega (arith, fold_blocks (absorb b (Begin l)) es)
fold_blocks b (Header key value ∷ es) = omega (arith, fold_blocks (absorb b (Header key value)) es)
fold_blocks b (Octets o ∷ es) = omega (arith, fold_blocks (absorb b (Octets o)) es, length-append b.octets o)
fold_blocks b (End ∷ es) = omega (arith, fold_blocks (absorb b End) es, sum_by-append (λ v. length v.octets) b.blocks (open_block b ∷ []))

-- the octets of the blocks that events build
pub blocks_few : (es : List Event) → sum_by (λ b. length b.octets) (built es).blocks + length (built es).octets ≤ event_octets es
unfolding built block_octets
blocks_few es = omega (arith, fold_blocks nothing_built es)

-- ---- lines
total : List Line → ℕ
total [] = 0
total (l ∷ ls) = length l + total ls

total_both : (a b : List Line) → total (a ++ b) ≡ total a + total b
unfolding total
total_both [] b = omega arith
total_both (l ∷ a) b = omega (arith, total_both a b)

total_offset : (ls : List Line) → total ls ≤ offset ls
unfolding total
total_offset [] = omega arith
total_offset (l ∷ ls) = omega (arith, total_offset ls)

total_onto : (c : ℕ) (ls : List Line) → total (onto c ls) ≡ 1 + total ls
unfolding total
total_onto c [] = refl
total_onto c (l ∷ ls) = omega arith

total_lines : (text : List ℕ) → total (lines text) ≤ length text
unfolding total lines
total_lines [] = omega arith
total_lines (c ∷ text) = elim (cases_Bool (c == 10)) [
  | inl y ↦ rw y (omega (arith, total_lines text))
  | inr n ↦ rw n (omega (arith, total_lines text, total_onto c (lines text)))
]

total_ended : (ended : Bool) (text : List ℕ) → total (lines_ended ended text) ≤ length text
total_ended false text = omega (arith, total_offset (cut text).ended, cut_length text)
total_ended true text = total_lines text

lines_few : (text : List ℕ) → length (lines text) ≤ length text
unfolding lines
lines_few [] = omega arith
lines_few (c ∷ text) = elim (cases_Bool (c == 10)) [
  | inl y ↦ rw y (omega (arith, lines_few text))
  | inr n ↦ rw n (omega (arith, lines_few text, onto_few c (lines text)))
]
  where
    onto_few : (c : ℕ) (ls : List Line) → length (onto c ls) ≤ length ls + 1
    onto_few c [] = omega arith
    onto_few c (l ∷ ls) = omega arith

offset_few : (ls : List Line) → length ls ≤ offset ls
offset_few [] = omega arith
offset_few (l ∷ ls) = omega (arith, offset_few ls)

ended_few : (ended : Bool) (text : List ℕ) → length (lines_ended ended text) ≤ length text
ended_few false text = omega (arith, offset_few (cut text).ended, cut_length text)
ended_few true text = lines_few text

one_end : (section : Section) (c : List ℕ) → ended_by section c ≤ 1
one_end Outside c = omega arith
one_end (Headers label) c = omega arith
one_end (Data label) c = elim (cases_Bool (begins_with is_dash c)) [ inl y ↦ rw y (omega arith) | inr n ↦ rw n (omega arith) ]
one_end (AfterChecksum label) c = elim (cases_Bool (begins_with is_dash c)) [ inl y ↦ rw y (omega arith) | inr n ↦ rw n (omega arith) ]

finished_from : (s : Situation) (ls : List Line) → (fold after_line s ls).finished ≤ s.finished + length ls
finished_from s [] = omega arith
finished_from s (l ∷ ls) = omega (arith, finished_from (after_line s l) ls, one_end s.section (content l))

-- no more blocks end than there are lines
finished_few : (ls : List Line) → (situation ls).finished ≤ length ls
unfolding situation
finished_few ls = omega (arith, finished_from (record { section = Outside; finished = 0 }) ls)

-- ---- runs
record Took (ls : List Line) (r : Run) : Type 0 where
  few : length r.state.pending.letters < 4
  letters : list_all is_letter r.state.pending.letters ≡ true
  held : event_octets r.events + length r.state.pending.letters ≤ total ls

took_more : (rule : LineRule) (front : List Line) (r : Run) (l : Line) (s : State) (more : List Event) → Took front r → step rule r.state l ≡ Ok (s, more) → Took (front ++ l ∷ []) (record { state = s; events = r.events ++ more })
unfolding total
took_more rule front r l s more took is =
    let small = step_shrinks rule r.state s l more took.few took.letters is in
    record { few = small.few; letters = small.are_letters; held = omega (arith, events_both r.events more, total_both front (l ∷ []), small.held, took.held) }

took_first : Took [] first
unfolding total
took_first = record { few = omega arith; letters = refl; held = omega arith }

took : (rule : LineRule) (ls : List Line) (r : Run) → run rule ls ≡ Ok r → Took ls r
took rule ls r h = run_keeps rule Took (took_more rule) [] ls first r took_first h

-- ---- readers
stands_few : (d : Dearmor) (f : Option Fault) (given : List ℕ) (taken : List Event) → Stands d f given taken → event_octets (taken ++ events_of d.ready) ≤ length given
unfolding total
stands_few d None given taken going =
    omega (arith, (took (rule_of d) (lines_ended d.ended given) going.last going.ran).held, ap event_octets going.events, total_ended d.ended given)
stands_few d (Some fault) given taken s =
    omega (arith, (took (rule_of d) s.before s.last s.ran).held, ap event_octets s.events, ap total s.are, total_both s.before (s.line ∷ s.after), total_ended d.ended given)

pub fed_all : (d : Dearmor) (given : List ℕ) (taken : List Event) → Fed d given taken → event_octets (taken ++ events_of d.ready) ≤ length given
fed_all d given taken fed = stands_few d d.fault given taken fed.stands

-- the octets of the open block, and of the events behind those that built it
pub fed_few : (d : Dearmor) (given : List ℕ) (taken more : List Event) → Fed d given (taken ++ more) → length (built taken).octets + event_octets more ≤ length given
fed_few d given taken more fed = omega (arith, fed_all d given (taken ++ more) fed, built_few taken more, events_both (taken ++ more) (events_of d.ready))

stands_blocks : (d : Dearmor) (f : Option Fault) (given : List ℕ) (taken : List Event) → Stands d f given taken → length (built (taken ++ events_of d.ready)).blocks ≤ length given
stands_blocks d None given taken going =
    omega (arith, (tracks (rule_of d) (lines_ended d.ended given) going.last going.ran).finished, ap (λ (v : List Event). length (built v).blocks) going.events, finished_few (lines_ended d.ended given), ended_few d.ended given)
stands_blocks d (Some fault) given taken s =
    omega (arith, (tracks (rule_of d) s.before s.last s.ran).finished, ap (λ (v : List Event). length (built v).blocks) s.events, finished_few s.before, ap length s.are, length-append s.before (s.line ∷ s.after), ended_few d.ended given)

-- each block takes an octet at least
pub fed_blocks : (d : Dearmor) (given : List ℕ) (taken : List Event) → Fed d given taken → length (built taken).blocks ≤ length given
fed_blocks d given taken fed =
    omega (arith, stands_blocks d d.fault given taken fed.stands, ap (λ (b : Built). length b.blocks) (built_more taken (events_of d.ready)), blocks_end (built taken) (events_of d.ready))

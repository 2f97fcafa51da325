-- How a reader's state follows what it is given.
use Rattle.std.proofs.Common.{◌≡◌, ℕ, zero, suc, ◌+◌, ◌-◌, ◌<◌, ◌≤◌, ◌==◌, Bool, true, false, List, [], ◌∷◌, ◌++◌, length, take, drop, slice_index, refl, sym, ap, ◌∙◌, arith, inl, inr, subst, Option, None, Some, Ok, Err}
use Rattle.std.proofs.lemmas.List.{append_assoc, append-nil, length-append, take_all, length-take-le, take-append-drop, take_more, take_rest, length-drop}
use Rattle.std.specs.Option.{is_some}
use Rattle.std.proofs.lemmas.Bool.{cases_Bool, eqb-true}
use Rattle.std.specs.List.{fold, list_all}
use Rattle.std.specs.declared.result.Result.{Result}
use Rattle.opgp_armor.specs.declared.event.ArmorEvent.{ArmorEvent}
use Rattle.opgp_octets.specs.declared.fault.Reason.{Reason}
use Rattle.opgp_armor.specs.declared.reader.Dearmor.{Dearmor}
use Rattle.opgp_octets.specs.declared.fault.Fault.{Fault}
use Rattle.opgp_armor.specs.declared.section.Section.{Section}
use Rattle.opgp_armor.specs.Rules.{LineRule}
use Rattle.opgp_armor.specs.Text.{Line, offset}
use Rattle.opgp_armor.specs.Events.{Event, Begin, Header, Octets, End, Built, built, absorb, events_of, ends_in}
use Rattle.opgp_armor.specs.Machine.{Answer, Run, State, start, run, run_from, first, onward, step}
use Rattle.opgp_armor.specs.LineAnswer.{state_of}
use Rattle.opgp_octets.specs.Octets.{IsOctets}
use Rattle.opgp_armor.specs.Cuts.{Cut, feed, uncut, cut, lines_ended, kept, kept_most, is_plain, IsLineSplit}
use Rattle.opgp_armor.specs.Fed.{Going, Stopped, Stands, Fed, AfterLine, SameReader, rule_of}
use Rattle.opgp_armor.proofs.Lists.{fold-both}
use Rattle.opgp_armor.proofs.Octets.{AreOctets, each_octet, all_octets}
use Rattle.opgp_armor.proofs.DataLine.{octets-append, octets_front}
use Rattle.opgp_armor.proofs.Keeping.{step_seen, kept_none}
use Rattle.opgp_armor.proofs.Sound.{run-more, run-cons, run-nil, built_more}

-- ---- cutting goes on
pub cut-more : (a b : List ℕ) → cut (a ++ b) ≡ fold feed (cut a) b
unfolding cut
cut-more a b = fold-both feed uncut a b

feed_plain : (s : Cut) (c : ℕ) → is_plain c ≡ true → feed s c ≡ record s { tail = s.tail ++ c ∷ [] }
feed_plain s c h = elim (cases_Bool (c == 10)) [
  | inl y ↦ cc (rw y at h)
  | inr n ↦ rw n refl
]

fold_plain : (s : Cut) (part : List ℕ) → list_all is_plain part ≡ true → fold feed s part ≡ record s { tail = s.tail ++ part }
fold_plain s [] h = rw (append-nil s.tail) refl
fold_plain s (c ∷ part) h = elim (cases_Bool (is_plain c)) [
  | inl y ↦
      let t : Cut = record s { tail = s.tail ++ c ∷ [] } in
      ap (λ (v : Cut). fold feed v part) (feed_plain s c y) ∙ fold_plain t part (rw y at h) ∙ ap (λ (v : List ℕ). record s { tail = v }) (append_assoc s.tail (c ∷ []) part)
  | inr n ↦ cc (rw n at h)
]

pub cut_plain : (given part : List ℕ) → list_all is_plain part ≡ true → cut (given ++ part) ≡ record { ended = (cut given).ended; tail = (cut given).tail ++ part }
cut_plain given part h = cut-more given part ∙ fold_plain (cut given) part h

pub cut_line : (given part : List ℕ) → list_all is_plain part ≡ true → cut (given ++ (part ++ 10 ∷ [])) ≡ record { ended = (cut given).ended ++ ((cut given).tail ++ part) ∷ []; tail = [] }
cut_line given part h =
    cut-more given (part ++ 10 ∷ []) ∙ fold-both feed (cut given) part (10 ∷ []) ∙ ap (λ (v : Cut). feed v 10) (fold_plain (cut given) part h)

-- ---- a new reader
pub take_nil : (n : ℕ) → ◌≡◌ {A = List ℕ} [] (take n [])
take_nil zero = refl
take_nil (suc n) = refl

pub going_first : (d : Dearmor) → state_of d.section d.pending ≡ start → d.ready ≡ None → d.buffer.items ≡ [] → d.start ≡ 0 → d.finished ≡ 0 → d.ended ≡ false → Going d [] []
unfolding cut built
going_first d section ready buffer start finished open_ =
    record {
      last = first;
      ran = rw open_ (run-nil (rule_of d) (Ok first));
      state = sym section;
      events = ap events_of (sym ready);
      buffered = λ e. buffer ∙ take_nil (kept_most (rule_of d) d.section []);
      begins = λ e. start;
      finished = finished;
    }

-- ---- before the text has ended
-- the reader goes on, and the text has not ended
pub record Open (d : Dearmor) (given : List ℕ) (taken : List Event) : Type 0 where
  pub last : Run
  pub ran : run (rule_of d) (cut given).ended ≡ Ok last
  pub state : last.state ≡ state_of d.section d.pending
  pub events : last.events ≡ taken ++ events_of d.ready
  pub buffered : d.buffer.items ≡ kept (rule_of d) d.section (cut given).tail
  pub begins : d.start ≡ offset (cut given).ended
  pub finished : d.finished ≡ length (built last.events).blocks

pub open_of : (d : Dearmor) (given : List ℕ) (taken : List Event) → d.ended ≡ false → Going d given taken → Open d given taken
open_of d given taken open_ going = record {
  last = going.last;
  ran = subst (λ (v : Bool). run (rule_of d) (lines_ended v given) ≡ Ok going.last) open_ going.ran;
  state = going.state;
  events = going.events;
  buffered = going.buffered open_;
  begins = going.begins open_;
  finished = going.finished;
}

pub going_open : (d : Dearmor) (given : List ℕ) (taken : List Event) → d.ended ≡ false → Open d given taken → Going d given taken
going_open d given taken open_ going = record {
  last = going.last;
  ran = subst (λ (v : Bool). run (rule_of d) (lines_ended v given) ≡ Ok going.last) (sym open_) going.ran;
  state = going.state;
  events = going.events;
  buffered = λ e. going.buffered;
  begins = λ e. going.begins;
  finished = going.finished;
}

-- ---- more octets of the same line
-- the same, whatever of its unfinished line is kept
pub record Before (d : Dearmor) (given : List ℕ) (taken : List Event) : Type 0 where
  pub last : Run
  pub ran : run (rule_of d) (cut given).ended ≡ Ok last
  pub state : last.state ≡ state_of d.section d.pending
  pub events : last.events ≡ taken ++ events_of d.ready
  pub begins : d.start ≡ offset (cut given).ended
  pub finished : d.finished ≡ length (built last.events).blocks

pub before_more : (d e : Dearmor) (given part : List ℕ) (taken : List Event) → Open d given taken → list_all is_plain part ≡ true → rule_of e ≡ rule_of d
    → state_of d.section d.pending ≡ state_of e.section e.pending → events_of d.ready ≡ events_of e.ready → e.start ≡ d.start → e.finished ≡ d.finished → Before e (given ++ part) taken
before_more d e given part taken going plain rule state ready start finished =
    let ended : (cut given).ended ≡ (cut (given ++ part)).ended = ap (λ (v : Cut). v.ended) (sym (cut_plain given part plain)) in
    record {
      last = going.last;
      ran = rw (rule, ← ended) going.ran;
      state = going.state ∙ state;
      events = going.events ∙ ap (λ (v : List Event). taken ++ v) ready;
      begins = start ∙ going.begins ∙ ap offset ended;
      finished = finished ∙ going.finished;
    }

pub going_more : (d e : Dearmor) (given part : List ℕ) (taken : List Event) → Open d given taken → list_all is_plain part ≡ true → rule_of e ≡ rule_of d → e.section ≡ d.section
    → state_of d.section d.pending ≡ state_of e.section e.pending → events_of d.ready ≡ events_of e.ready
    → ((tail : List ℕ) → d.buffer.items ≡ kept (rule_of d) d.section tail → e.buffer.items ≡ kept (rule_of d) d.section (tail ++ part)) → e.start ≡ d.start → e.finished ≡ d.finished → Open e (given ++ part) taken
going_more d e given part taken going plain rule section state ready buffer start finished =
    let tail : (cut given).tail ++ part ≡ (cut (given ++ part)).tail = ap (λ (v : Cut). v.tail) (sym (cut_plain given part plain)) in
    let more = before_more d e given part taken going plain rule state ready start finished in
    record {
      last = more.last;
      ran = more.ran;
      state = more.state;
      events = more.events;
      buffered =
          buffer (cut given).tail going.buffered
          ∙ ap (λ (v : LineRule). kept v d.section ((cut given).tail ++ part)) (sym rule)
          ∙ ap (λ (v : Section). kept (rule_of e) v ((cut given).tail ++ part)) (sym section)
          ∙ ap (kept (rule_of e) e.section) tail;
      begins = more.begins;
      finished = more.finished;
    }

-- ---- after a fault
pub fold_ended : (s : Cut) (part : List ℕ) → (extra : List Line) × ((fold feed s part).ended ≡ s.ended ++ extra)
fold_ended s [] = ([], sym (append-nil s.ended))
fold_ended s (c ∷ part) = elim (cases_Bool (c == 10)) [
  | inl y ↦
      let t : Cut = record { ended = s.ended ++ s.tail ∷ []; tail = [] } in
      let more = fold_ended t part in
      let e : feed s c ≡ t = rw y refl in
      (s.tail ∷ more.0, ap (λ (v : Cut). (fold feed v part).ended) e ∙ more.1 ∙ append_assoc s.ended (s.tail ∷ []) more.0)
  | inr n ↦
      let t : Cut = record s { tail = s.tail ++ c ∷ [] } in
      let more = fold_ended t part in
      let e : feed s c ≡ t = rw n refl in
      (more.0, ap (λ (v : Cut). (fold feed v part).ended) e ∙ more.1)
]

pub stopped_more : (d e : Dearmor) (fault : Fault) (given part : List ℕ) (taken : List Event) → Stopped d fault given taken → d.ended ≡ false → e.ended ≡ d.ended → rule_of e ≡ rule_of d → events_of d.ready ≡ events_of e.ready
    → Stopped e fault (given ++ part) taken
stopped_more d e fault given part taken stopped open_ ended rule ready =
    let more = fold_ended (cut given) part in
    let were : (cut given).ended ≡ stopped.before ++ stopped.line ∷ stopped.after = subst (λ (v : Bool). lines_ended v given ≡ stopped.before ++ stopped.line ∷ stopped.after) open_ stopped.are in
    record {
      before = stopped.before;
      line = stopped.line;
      after = stopped.after ++ more.0;
      last = stopped.last;
      are = ap (λ (v : Bool). lines_ended v (given ++ part)) (ended ∙ open_) ∙ ap (λ (v : Cut). v.ended) (cut-more given part) ∙ more.1 ∙ ap (λ (v : List Line). v ++ more.0) were ∙ append_assoc stopped.before (stopped.line ∷ stopped.after) more.0;
      ran = rw rule stopped.ran;
      stops = rw rule stopped.stops;
      events = stopped.events ∙ ap (λ (v : List Event). taken ++ v) ready;
      pos = stopped.pos;
      block = stopped.block;
      in_armor = stopped.in_armor;
      inner = stopped.inner;
    }

-- ---- the end of a line
pub blocks_end : (b : Built) (es : List Event) → length (fold absorb b es).blocks ≡ length b.blocks + ends_in es
blocks_end b [] = omega arith
blocks_end b (Begin l ∷ es) = blocks_end (absorb b (Begin l)) es
blocks_end b (Header key value ∷ es) = blocks_end (absorb b (Header key value)) es
blocks_end b (Octets o ∷ es) = blocks_end (absorb b (Octets o)) es
blocks_end b (End ∷ es) = omega (arith, blocks_end (absorb b End) es, length-append b.blocks (record { label = b.label; headers = b.headers; octets = b.octets } ∷ []))

offset-more : (ls : List Line) (l : Line) → offset (ls ++ l ∷ []) ≡ offset ls + (length l + 1)
offset-more [] l = omega arith
offset-more (k ∷ ls) l = omega (arith, offset-more ls l)

fold_length : (s : Cut) (part : List ℕ) → offset (fold feed s part).ended + length (fold feed s part).tail ≡ offset s.ended + length s.tail + length part
fold_length s [] = omega arith
fold_length s (c ∷ part) = elim (cases_Bool (c == 10)) [
  | inl y ↦
      let t : Cut = record { ended = s.ended ++ s.tail ∷ []; tail = [] } in
      let e : feed s c ≡ t = rw y refl in
      let e1 : offset (fold feed (feed s c) part).ended ≡ offset (fold feed t part).ended = ap (λ (v : Cut). offset (fold feed v part).ended) e in
      let e2 : length (fold feed (feed s c) part).tail ≡ length (fold feed t part).tail = ap (λ (v : Cut). length (fold feed v part).tail) e in
      omega (arith, fold_length t part, offset-more s.ended s.tail)
  | inr n ↦
      let t : Cut = record s { tail = s.tail ++ c ∷ [] } in
      let e : feed s c ≡ t = rw n refl in
      let e1 : offset (fold feed (feed s c) part).ended ≡ offset (fold feed t part).ended = ap (λ (v : Cut). offset (fold feed v part).ended) e in
      let e2 : length (fold feed (feed s c) part).tail ≡ length (fold feed t part).tail = ap (λ (v : Cut). length (fold feed v part).tail) e in
      omega (arith, fold_length t part, length-append s.tail (c ∷ []))
]

pub cut_length : (given : List ℕ) → offset (cut given).ended + length (cut given).tail ≡ length given
unfolding cut
cut_length given = omega (arith, fold_length uncut given)

module _ (m e : Dearmor) (given seen : List ℕ) (taken : List Event) (going : Before m given taken) (none : m.ready ≡ None)
    (looks : step (rule_of m) (state_of m.section m.pending) seen ≡ step (rule_of m) (state_of m.section m.pending) (cut given).tail)
    (rule : rule_of e ≡ rule_of m) (count : m.given ≡ length given + 1) (open_ : e.ended ≡ false) where
  line_state : step (rule_of m) (state_of m.section m.pending) seen ≡ step (rule_of m) going.last.state (cut given).tail
  line_state = looks ∙ ap (λ (v : State). step (rule_of m) v (cut given).tail) (sym going.state)

  now : cut (given ++ 10 ∷ []) ≡ record { ended = (cut given).ended ++ (cut given).tail ∷ []; tail = [] }
  now = cut_line given [] refl ∙ ap (λ (v : List ℕ). record { ended = (cut given).ended ++ v ∷ []; tail = [] }) (append-nil (cut given).tail)

  quiet : going.last.events ≡ taken
  quiet = going.events ∙ ap (λ (v : Option ArmorEvent). taken ++ events_of v) none ∙ append-nil taken

  ended_by : (a : Answer) → step (rule_of m) (state_of m.section m.pending) seen ≡ a → AfterLine m e a → Stands e e.fault (given ++ 10 ∷ []) taken
  ended_by (Ok (s, more)) is after =
      let r : Run = record { state = s; events = going.last.events ++ more } in
      let ended : (cut given).ended ++ (cut given).tail ∷ [] ≡ (cut (given ++ 10 ∷ [])).ended = ap (λ (v : Cut). v.ended) (sym now) in
      let tail : [] ≡ (cut (given ++ 10 ∷ [])).tail = ap (λ (v : Cut). v.tail) (sym now) in
      let stepped : step (rule_of m) going.last.state (cut given).tail ≡ Ok (s, more) = sym line_state ∙ is in
      let ran : run (rule_of m) ((cut given).ended ++ (cut given).tail ∷ []) ≡ Ok r =
      run-more (rule_of m) (Ok first) (cut given).ended ((cut given).tail ∷ []) ∙ ap (λ (v : Result Run Reason). run_from (rule_of m) v ((cut given).tail ∷ [])) going.ran
      ∙ run-cons (rule_of m) (Ok going.last) (cut given).tail [] ∙ ap (λ (v : Answer). run_from (rule_of m) (onward going.last.events v) []) stepped ∙ run-nil (rule_of m) (Ok r) in
      subst (λ (v : Option Fault). Stands e v (given ++ 10 ∷ []) taken) (sym after.2) (going_open e (given ++ 10 ∷ []) taken open_ (record {
        last = r;
        ran = rw (rule, ← ended) ran;
        state = after.0;
        events = ap (λ (v : List Event). v ++ more) quiet ∙ ap (λ (v : List Event). taken ++ v) after.1;
        buffered = after.4 ∙ take_nil (kept_most (rule_of e) e.section []) ∙ ap (kept (rule_of e) e.section) tail;
        begins = after.5 ∙ count ∙ rw (← ended) (omega (arith, offset-more (cut given).ended (cut given).tail, cut_length given));
        finished = after.3 ∙ ap (λ (v : ℕ). v + ends_in more) going.finished ∙ sym (blocks_end (built going.last.events) more) ∙ ap (λ (v : Built). length v.blocks) (sym (built_more going.last.events more));
      }))
  ended_by (Err x) is after =
      subst (λ (v : Option Fault). Stands e v (given ++ 10 ∷ []) taken) (sym after.0) (record {
        before = (cut given).ended;
        line = (cut given).tail;
        after = [];
        last = going.last;
        are = ap (λ (v : Bool). lines_ended v (given ++ 10 ∷ [])) open_ ∙ ap (λ (v : Cut). v.ended) now;
        ran = rw rule going.ran;
        stops = rw rule (sym line_state ∙ is);
        events = going.events ∙ ap (λ (v : Option ArmorEvent). taken ++ events_of v) (none ∙ sym after.1);
        pos = going.begins;
        block = going.finished;
        in_armor = refl;
        inner = refl;
      })

-- ---- one part of a piece
count_more : (given piece : List ℕ) (n : ℕ) → n ≤ length piece → length (given ++ take n piece) ≡ length given + n
count_more given piece n h = omega (arith, length-append given (take n piece), length-take-le n piece h)

-- more octets
octets_more : (given piece : List ℕ) (n : ℕ) → IsOctets given → IsOctets piece → IsOctets (given ++ take n piece)
octets_more given piece n g p =
    let all : AreOctets (take n piece ++ drop n piece) = subst AreOctets (sym (take-append-drop n piece)) (all_octets piece p) in
    each_octet (given ++ take n piece) (octets-append given (take n piece) (all_octets given g) (octets_front (take n piece) (drop n piece) all))

pub going_of : (d : Dearmor) (given : List ℕ) (taken : List Event) → Fed d given taken → d.fault ≡ None → Going d given taken
going_of d given taken fed none = subst (λ (v : Option Fault). Stands d v given taken) none fed.stands

pub part_plain : (d e : Dearmor) (piece line : List ℕ) (n : ℕ) (given : List ℕ) (taken : List Event) → Fed d given taken → IsOctets piece → d.fault ≡ None → d.ended ≡ false → IsLineSplit piece line n false
    → e.fault ≡ d.fault → e.given ≡ d.given + n → rule_of e ≡ rule_of d → e.spent ≡ d.spent → e.ended ≡ d.ended → e.section ≡ d.section
    → state_of d.section d.pending ≡ state_of e.section e.pending → events_of d.ready ≡ events_of e.ready
    → ((tail : List ℕ) → d.buffer.items ≡ kept (rule_of d) d.section tail → e.buffer.items ≡ kept (rule_of d) d.section (tail ++ line)) → e.start ≡ d.start → e.finished ≡ d.finished
    → Fed e (given ++ take n piece) taken
part_plain d e piece line n given taken fed octets none open_ split fault count rule spent ended section state ready buffer start finished =
    let going = open_of d given taken open_ (going_of d given taken fed none) in
    let more = going_open e (given ++ line) taken (ended ∙ open_) (going_more d e given line taken going split.plain rule section state ready buffer start finished) in
    record {
      sound = spent ∙ fed.sound;
      octets = octets_more given piece n fed.octets octets;
      count = count ∙ rw (count_more given piece n split.within) (omega (arith, fed.count));
      stands = subst (λ (v : Option Fault). Stands e v (given ++ take n piece) taken) (sym (fault ∙ none))
          (subst (λ (v : List ℕ). Going e (given ++ v) taken) (sym split.front) more);
    }

-- what is answered of an unfinished line, is answered of the line
abbrev pub Looks : Dearmor → List ℕ → List ℕ → Type 0
Looks d line seen = (tail : List ℕ) → d.buffer.items ≡ kept (rule_of d) d.section tail
    → step (rule_of d) (state_of d.section d.pending) seen ≡ step (rule_of d) (state_of d.section d.pending) (tail ++ line)

-- where it was kept ..
pub looks_buffered : (d : Dearmor) (line seen : List ℕ)
    → ((tail : List ℕ) → d.buffer.items ≡ kept (rule_of d) d.section tail → seen ≡ kept (rule_of d) d.section (tail ++ line)) → Looks d line seen
looks_buffered d line seen buffer = λ tail is.
    ap (step (rule_of d) (state_of d.section d.pending)) (buffer tail is) ∙ step_seen (rule_of d) (state_of d.section d.pending) (tail ++ line) d.low

-- .. and where it lies whole in a piece
pub looks_whole : (d : Dearmor) (line : List ℕ) → d.buffer.items ≡ [] → Looks d line line
looks_whole d line empty = λ tail is.
    ap (λ (v : List ℕ). step (rule_of d) (state_of d.section d.pending) (v ++ line)) (sym (kept_none (rule_of d) d.section tail (sym is ∙ empty)))

pub part_line : (d m e : Dearmor) (piece line seen : List ℕ) (n : ℕ) (given : List ℕ) (taken : List Event) → Fed d given taken → IsOctets piece → d.fault ≡ None → d.ended ≡ false → d.ready ≡ None → IsLineSplit piece line n true
    → Looks d line seen → m.given ≡ d.given + n → rule_of m ≡ rule_of d → m.spent ≡ d.spent → m.ended ≡ d.ended
    → state_of d.section d.pending ≡ state_of m.section m.pending → d.ready ≡ m.ready → m.start ≡ d.start → m.finished ≡ d.finished
    → SameReader m e → AfterLine m e (step (rule_of m) (state_of m.section m.pending) seen)
    → Fed e (given ++ take n piece) taken
part_line d m e piece line seen n given taken fed octets none open_ quiet_ split look count rule spent ended state ready start finished same after =
    let going = open_of d given taken open_ (going_of d given taken fed none) in
    let mid : Before m (given ++ line) taken = before_more d m given line taken going split.plain rule state (ap events_of ready) start finished in
    let cut_ : n ≡ length line + 1 = sym (length-take-le n piece split.within) ∙ ap length split.front ∙ length-append line (10 ∷ []) in
    let all : (given ++ line) ++ 10 ∷ [] ≡ given ++ take n piece = append_assoc given line (10 ∷ []) ∙ ap (λ (v : List ℕ). given ++ v) (sym split.front) in
    let counted : m.given ≡ length (given ++ line) + 1 = omega (arith, count, fed.count, length-append given line) in
    let tail : (cut given).tail ++ line ≡ (cut (given ++ line)).tail = ap (λ (v : Cut). v.tail) (sym (cut_plain given line split.plain)) in
    let looked : step (rule_of m) (state_of m.section m.pending) seen ≡ step (rule_of m) (state_of m.section m.pending) (cut (given ++ line)).tail =
    rw (rule, ← state, ← tail) (look (cut given).tail going.buffered) in
    let stands = ended_by m e (given ++ line) seen taken mid (sym ready ∙ quiet_) looked same.rule counted (same.ended ∙ ended ∙ open_) (step (rule_of m) (state_of m.section m.pending) seen) refl after in
    record {
      sound = same.spent ∙ spent ∙ fed.sound;
      octets = octets_more given piece n fed.octets octets;
      count = same.given ∙ count ∙ rw (count_more given piece n split.within) (omega (arith, fed.count));
      stands = subst (λ (v : List ℕ). Stands e e.fault v taken) all stands;
    }

-- ---- octets or events in turn
pub no_event : (e : Dearmor) (given : List ℕ) (taken : List Event) → Fed e given taken → Fed e given (taken ++ [])
no_event e given taken fed = subst (Fed e given) (sym (append-nil taken)) fed

pub without_event : (e : Dearmor) (given : List ℕ) (taken : List Event) → Fed e given (taken ++ []) → Fed e given taken
without_event e given taken fed = subst (Fed e given) (append-nil taken) fed

pub no_octet : (e : Dearmor) (given : List ℕ) (taken : List Event) → Fed e given taken → Fed e (given ++ []) taken
no_octet e given taken fed = subst (λ (v : List ℕ). Fed e v taken) (sym (append-nil given)) fed

pub without_octet : (e : Dearmor) (given : List ℕ) (taken : List Event) → Fed e (given ++ []) taken → Fed e given taken
without_octet e given taken fed = subst (λ (v : List ℕ). Fed e v taken) (append-nil given) fed

some_stands : (d e : Dearmor) (f : Option Fault) (given part : List ℕ) (taken : List Event) → (f ≡ None → ⊥) → Stands d f given taken → d.ended ≡ false → e.ended ≡ d.ended → rule_of e ≡ rule_of d → events_of d.ready ≡ events_of e.ready
    → Stands e f (given ++ part) taken
some_stands d e None given part taken some stands open_ ended rule ready = absurd (some refl)
some_stands d e (Some fault) given part taken some stands open_ ended rule ready = stopped_more d e fault given part taken stands open_ ended rule ready

pub part_stopped : (d e : Dearmor) (piece : List ℕ) (n : ℕ) (given : List ℕ) (taken : List Event) → Fed d given taken → IsOctets piece → (d.fault ≡ None → ⊥) → d.ended ≡ false → n ≤ length piece
    → e.fault ≡ d.fault → e.given ≡ d.given + n → rule_of e ≡ rule_of d → e.spent ≡ d.spent → e.ended ≡ d.ended → events_of d.ready ≡ events_of e.ready → Fed e (given ++ take n piece) taken
part_stopped d e piece n given taken fed octets some open_ within fault count rule spent ended ready = record {
  sound = spent ∙ fed.sound;
  octets = octets_more given piece n fed.octets octets;
  count = count ∙ rw (count_more given piece n within) (omega (arith, fed.count));
  stands = subst (λ (v : Option Fault). Stands e v (given ++ take n piece) taken) (sym fault) (some_stands d e d.fault given (take n piece) taken some fed.stands open_ ended rule ready);
}

-- ---- the first line end
pub first_plain : (s : List ℕ) (i : ℕ) → ((k : ℕ) → k < i → (slice_index s k == 10) ≡ true → ⊥) → list_all is_plain (take i s) ≡ true
first_plain s zero none = refl
first_plain [] (suc i) none = refl
first_plain (c ∷ s) (suc i) none = elim (cases_Bool (c == 10)) [
  | inl y ↦ absurd (none 0 (omega arith) y)
  | inr n ↦ rw n (first_plain s i (λ k lt e. none (suc k) (omega arith) e))
]

pub split_some : (s : List ℕ) (i : ℕ) → i < length s → ((k : ℕ) → k < i → (slice_index s k == 10) ≡ true → ⊥) → (slice_index s i == 10) ≡ true → IsLineSplit s (take i s) (i + 1) true
split_some s i lt none found = record {
  plain = first_plain s i none;
  some = omega arith;
  within = omega arith;
  front = take_more s i 0 lt ∙ ap (λ (v : ℕ). take i s ++ v ∷ []) (eqb-true (slice_index s i) 10 found);
}

pub split_none : (s : List ℕ) → 0 < length s → ((k : ℕ) → k < length s → (slice_index s k == 10) ≡ true → ⊥) → IsLineSplit s s (length s) false
split_none s some none = record {
  plain = ap (list_all is_plain) (sym (take_all (length s) s (omega arith))) ∙ first_plain s (length s) none;
  some = some;
  within = omega arith;
  front = take_all (length s) s (omega arith);
}

pub none_of : {X : Type 0} (o : Option X) (r : Bool) → is_some o ≡ r → r ≡ false → o ≡ None
none_of None r e h = refl
none_of (Some x) r e h = cc (rw h at e)

pub some_of : {X : Type 0} (o : Option X) (r : Bool) → is_some o ≡ r → r ≡ true → o ≡ None → ⊥
some_of None r e h n = cc (rw h at e)
some_of (Some x) r e h n = cc n

pub take_parts : (t n : ℕ) (p : List ℕ) → take t p ++ take n (drop t p) ≡ take (t + n) p
take_parts zero n p = ap (λ (v : ℕ). take v p) (zero_plus n)
  where
    zero_plus : (k : ℕ) → k ≡ zero + k
    zero_plus k = omega arith
take_parts (suc t) n [] = take_nothing n ∙ take_nil (suc t + n)
  where
    take_nothing : (k : ℕ) → ◌≡◌ {A = List ℕ} (take k []) []
    take_nothing zero = refl
    take_nothing (suc k) = refl
take_parts (suc t) n (x ∷ p) = ap (λ (v : List ℕ). x ∷ v) (take_parts t n p) ∙ ap (λ (v : ℕ). take v (x ∷ p)) (suc_plus t n)
  where
    suc_plus : (a b : ℕ) → suc (a + b) ≡ suc a + b
    suc_plus a b = omega arith

-- the next part of a piece
pub next_part : (e : Dearmor) (given piece : List ℕ) (t n : ℕ) (taken : List Event) → Fed e ((given ++ take t piece) ++ take n (take (length piece - t) (drop t piece))) taken → Fed e (given ++ take (t + n) piece) taken
next_part e given piece t n taken fed =
    let whole : (given ++ take t piece) ++ take n (take (length piece - t) (drop t piece)) ≡ (given ++ take t piece) ++ take n (drop t piece) =
    ap (λ (v : List ℕ). (given ++ take t piece) ++ take n v) (take_rest piece t) in
    subst (λ (v : List ℕ). Fed e v taken) (whole ∙ append_assoc given (take t piece) (take n (drop t piece)) ∙ ap (λ (v : List ℕ). given ++ v) (take_parts t n piece)) fed

pub part_fits : (piece : List ℕ) (t n : ℕ) → t ≤ length piece → n ≤ length (take (length piece - t) (drop t piece)) → t + n ≤ length piece
part_fits piece t n h k = omega (arith, ap length (take_rest piece t), length-drop t piece)

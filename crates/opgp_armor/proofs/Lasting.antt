-- The end of a text.
use Rattle.std.proofs.Common.{◌≡◌, ℕ, ◌+◌, ◌<◌, ◌==◌, Bool, true, false, List, [], ◌∷◌, ◌++◌, length, refl, sym, ap, ◌∙◌, arith, inl, inr, subst, Option, None, Some, Ok, Err}
use Rattle.std.proofs.lemmas.List.{append_assoc, append-nil}
use Rattle.std.proofs.lemmas.Bool.{cases_Bool}
use Rattle.std.specs.List.{fold, list_all}
use Rattle.std.specs.declared.result.Result.{Result}
use Rattle.opgp_octets.specs.Octets.{IsOctets}
use Rattle.opgp_octets.specs.declared.fault.Fault.{Fault}
use Rattle.opgp_octets.specs.declared.fault.Layer.TheVariants as layer
use Rattle.opgp_octets.specs.declared.fault.Reason.{Reason}
use Rattle.opgp_armor.specs.Rules.{LineRule}
use Rattle.opgp_armor.specs.declared.section.Section.{Section}
use Rattle.opgp_armor.specs.declared.section.Section.TheVariants.{Outside}
use Rattle.opgp_armor.specs.declared.event.ArmorEvent.{ArmorEvent}
use Rattle.opgp_armor.specs.declared.reader.Dearmor.{Dearmor}
use Rattle.opgp_armor.specs.Cuts.{is_plain, Cut, feed, uncut, cut, lines_ended, kept, kept_most}
use Rattle.opgp_armor.specs.Text.{Line, lines, onto}
use Rattle.opgp_armor.specs.Armored.{Armored, end_reason, IsArmorFault}
use Rattle.opgp_armor.specs.Events.{Event, Built, built, events_of, ends_in}
use Rattle.opgp_armor.specs.Machine.{Answer, Run, State, run, run_from, first, onward, step}
use Rattle.opgp_armor.specs.LineAnswer.{state_of}
use Rattle.opgp_armor.specs.Fed.{Stopped, Stands, Fed, AfterLine, SameReader, rule_of}
use Rattle.opgp_armor.proofs.Octets.{AreOctets, all_octets}
use Rattle.opgp_armor.proofs.DataLine.{all_both, octets-append}
use Rattle.opgp_armor.proofs.Texts.{are_lines, lines-cons, lines-nil}
use Rattle.opgp_armor.proofs.Ending.{lines_cut}
use Rattle.opgp_armor.proofs.Keeping.{step_seen, kept_none}
use Rattle.opgp_armor.proofs.Sound.{Stage, sound, relist, run-more, run-cons, run-nil, built_more}
use Rattle.opgp_armor.proofs.Complete.{complete}
use Rattle.opgp_armor.proofs.Faults.{extends}
use Rattle.opgp_armor.proofs.Answer.{line_fault, tracks}
use Rattle.opgp_armor.proofs.Feeding.{Open, open_of, going_of, blocks_end, take_nil, cut-more, fold_ended}

-- ---- the last line
fold_tail : (s : Cut) (t : List ℕ) → list_all is_plain s.tail ≡ true → list_all is_plain (fold feed s t).tail ≡ true
fold_tail s [] plain = plain
fold_tail s (c ∷ t) plain = elim (cases_Bool (c == 10)) [
  | inl y ↦
      let n : Cut = record { ended = s.ended ++ s.tail ∷ []; tail = [] } in
      let e : feed s c ≡ n = rw y refl in
      ap (λ (v : Cut). list_all is_plain (fold feed v t).tail) e ∙ fold_tail n t refl
  | inr m ↦
      let n : Cut = record s { tail = s.tail ++ c ∷ [] } in
      let e : feed s c ≡ n = rw m refl in
      let one : list_all is_plain (c ∷ []) ≡ true = rw m refl in
      ap (λ (v : Cut). list_all is_plain (fold feed v t).tail) e ∙ fold_tail n t (all_both is_plain s.tail (c ∷ []) plain one)
]

tail_plain : (text : List ℕ) → list_all is_plain (cut text).tail ≡ true
unfolding cut
tail_plain text = fold_tail uncut text refl

lines-plain : (c : ℕ) (l : List ℕ) → list_all is_plain (c ∷ l) ≡ true → lines (c ∷ l) ≡ (c ∷ l) ∷ []
lines-plain c [] h = elim (cases_Bool (is_plain c)) [
  | inl y ↦ lines-cons c [] y ∙ ap (onto c) lines-nil
  | inr n ↦ cc (rw n at h)
]
lines-plain c (d ∷ l) h = elim (cases_Bool (is_plain c)) [
  | inl y ↦ lines-cons c (d ∷ l) y ∙ ap (onto c) (lines-plain d l (rw y at h))
  | inr n ↦ cc (rw n at h)
]

lines_some : (l : List ℕ) → list_all is_plain l ≡ true → (l ≡ [] → ⊥) → lines l ≡ l ∷ []
lines_some [] plain some = absurd (some refl)
lines_some (c ∷ l) plain some = lines-plain c l plain

-- the text ends with an unfinished line
lines_last : (text : List ℕ) → ((cut text).tail ≡ [] → ⊥) → lines text ≡ (cut text).ended ++ (cut text).tail ∷ []
lines_last text some = lines_cut text ∙ ap (λ (v : List Line). (cut text).ended ++ v) (lines_some (cut text).tail (tail_plain text) some)

-- or with the end of its last line
lines_none : (text : List ℕ) → (cut text).tail ≡ [] → lines text ≡ (cut text).ended
lines_none text none = lines_cut text ∙ ap (λ (v : List ℕ). (cut text).ended ++ lines v) none ∙ ap (λ (v : List Line). (cut text).ended ++ v) lines-nil ∙ append-nil (cut text).ended

-- ---- the reader at the end of the text
stands_last : (d e : Dearmor) (f : Option Fault) (given : List ℕ) (taken : List Event) → (f ≡ None → ⊥) → Stands d f given taken → d.ended ≡ false → e.ended ≡ true → rule_of e ≡ rule_of d → events_of d.ready ≡ events_of e.ready
    → Stands e f given taken
stands_last d e None given taken some stands open_ ended rule ready = absurd (some refl)
stands_last d e (Some f) given taken some s open_ ended rule ready =
    let were : (cut given).ended ≡ s.before ++ s.line ∷ s.after = subst (λ (v : Bool). lines_ended v given ≡ s.before ++ s.line ∷ s.after) open_ s.are in
    record {
      before = s.before;
      line = s.line;
      after = s.after ++ lines (cut given).tail;
      last = s.last;
      are = ap (λ (v : Bool). lines_ended v given) ended ∙ lines_cut given ∙ ap (λ (v : List Line). v ++ lines (cut given).tail) were ∙ append_assoc s.before (s.line ∷ s.after) (lines (cut given).tail);
      ran = rw rule s.ran;
      stops = rw rule s.stops;
      events = s.events ∙ ap (λ (v : List Event). taken ++ v) ready;
      pos = s.pos;
      block = s.block;
      in_armor = s.in_armor;
      inner = s.inner;
    }

-- after a fault
pub last_stopped : (d e : Dearmor) (given : List ℕ) (taken : List Event) → Fed d given taken → (d.fault ≡ None → ⊥) → d.ended ≡ false → e.ended ≡ true → e.fault ≡ d.fault → e.given ≡ d.given → rule_of e ≡ rule_of d → e.spent ≡ d.spent
    → events_of d.ready ≡ events_of e.ready → Fed e given taken
last_stopped d e given taken fed some open_ ended fault count rule spent ready = record {
  sound = spent ∙ fed.sound;
  octets = fed.octets;
  count = count ∙ fed.count;
  stands = subst (λ (v : Option Fault). Stands e v given taken) (sym fault) (stands_last d e d.fault given taken some fed.stands open_ ended rule ready);
}

-- where no line is unfinished
pub last_none : (d e : Dearmor) (given : List ℕ) (taken : List Event) → Fed d given taken → d.fault ≡ None → d.ended ≡ false → d.buffer.items ≡ [] → e.ended ≡ true → e.fault ≡ d.fault → e.given ≡ d.given → rule_of e ≡ rule_of d → e.spent ≡ d.spent
    → state_of d.section d.pending ≡ state_of e.section e.pending → e.finished ≡ d.finished → events_of d.ready ≡ events_of e.ready → Fed e given taken
last_none d e given taken fed none open_ empty ended fault count rule spent state finished ready =
    let going = open_of d given taken open_ (going_of d given taken fed none) in
    let bare : (cut given).tail ≡ [] = kept_none (rule_of d) d.section (cut given).tail (sym going.buffered ∙ empty) in
    let all : (cut given).ended ≡ lines_ended e.ended given = sym (lines_none given bare) ∙ ap (λ (v : Bool). lines_ended v given) (sym ended) in
    record {
      sound = spent ∙ fed.sound;
      octets = fed.octets;
      count = count ∙ fed.count;
      stands = subst (λ (v : Option Fault). Stands e v given taken) (sym (fault ∙ none)) (record {
        last = going.last;
        ran = rw (rule, ← all) going.ran;
        state = going.state ∙ state;
        events = going.events ∙ ap (λ (v : List Event). taken ++ v) ready;
        buffered = λ o. cc (sym ended ∙ o);
        begins = λ o. cc (sym ended ∙ o);
        finished = finished ∙ going.finished;
      });
    }

module _ (d m e : Dearmor) (given : List ℕ) (taken : List Event) (going : Open d given taken) (none : d.ready ≡ None) (some : d.buffer.items ≡ [] → ⊥) (rule : rule_of m ≡ rule_of d)
    (state : state_of d.section d.pending ≡ state_of m.section m.pending) (buffer : m.buffer.items ≡ d.buffer.items) (begins : m.start ≡ d.start) (finished : m.finished ≡ d.finished)
    (same : SameReader m e) (ended : m.ended ≡ true) where
  tail_some : (cut given).tail ≡ [] → ⊥
  tail_some is = some (going.buffered ∙ ap (kept (rule_of d) d.section) is ∙ sym (take_nil (kept_most (rule_of d) d.section [])))

  all : lines_ended e.ended given ≡ (cut given).ended ++ (cut given).tail ∷ []
  all = ap (λ (v : Bool). lines_ended v given) (same.ended ∙ ended) ∙ lines_last given tail_some

  line_state : step (rule_of m) (state_of m.section m.pending) m.buffer.items ≡ step (rule_of d) going.last.state (cut given).tail
  line_state =
      ap (λ (v : LineRule). step v (state_of m.section m.pending) m.buffer.items) rule
      ∙ ap (λ (v : State). step (rule_of d) v m.buffer.items) (sym state ∙ sym going.state)
      ∙ ap (step (rule_of d) going.last.state) (buffer ∙ going.buffered ∙ ap (λ (v : State). kept (rule_of d) v.section (cut given).tail) (sym going.state))
      ∙ step_seen (rule_of d) going.last.state (cut given).tail d.low

  quiet : going.last.events ≡ taken
  quiet = going.events ∙ ap (λ (v : Option ArmorEvent). taken ++ events_of v) none ∙ append-nil taken

  last_by : (a : Answer) → step (rule_of m) (state_of m.section m.pending) m.buffer.items ≡ a → AfterLine m e a → Stands e e.fault given taken
  last_by (Ok (s, more)) is after =
      let r : Run = record { state = s; events = going.last.events ++ more } in
      let stepped : step (rule_of d) going.last.state (cut given).tail ≡ Ok (s, more) = sym line_state ∙ is in
      let ran : run (rule_of d) ((cut given).ended ++ (cut given).tail ∷ []) ≡ Ok r =
      run-more (rule_of d) (Ok first) (cut given).ended ((cut given).tail ∷ []) ∙ ap (λ (v : Result Run Reason). run_from (rule_of d) v ((cut given).tail ∷ [])) going.ran
      ∙ run-cons (rule_of d) (Ok going.last) (cut given).tail [] ∙ ap (λ (v : Answer). run_from (rule_of d) (onward going.last.events v) []) stepped ∙ run-nil (rule_of d) (Ok r) in
      subst (λ (v : Option Fault). Stands e v given taken) (sym after.2) (record {
        last = r;
        ran = rw (same.rule ∙ rule, all) ran;
        state = after.0;
        events = ap (λ (v : List Event). v ++ more) quiet ∙ ap (λ (v : List Event). taken ++ v) after.1;
        buffered = λ o. cc (sym (same.ended ∙ ended) ∙ o);
        begins = λ o. cc (sym (same.ended ∙ ended) ∙ o);
        finished = after.3 ∙ ap (λ (v : ℕ). v + ends_in more) (finished ∙ going.finished) ∙ sym (blocks_end (built going.last.events) more) ∙ ap (λ (v : Built). length v.blocks) (sym (built_more going.last.events more));
      })
  last_by (Err x) is after =
      subst (λ (v : Option Fault). Stands e v given taken) (sym after.0) (record {
        before = (cut given).ended;
        line = (cut given).tail;
        after = [];
        last = going.last;
        are = all;
        ran = rw (same.rule ∙ rule) going.ran;
        stops = rw (same.rule ∙ rule) (sym line_state ∙ is);
        events = quiet ∙ sym (append-nil taken) ∙ ap (λ (v : Option ArmorEvent). taken ++ events_of v) (sym after.1);
        pos = begins ∙ going.begins;
        block = finished ∙ going.finished;
        in_armor = refl;
        inner = refl;
      })

-- an unfinished line ends with the text
pub last_line : (d m e : Dearmor) (given : List ℕ) (taken : List Event) → Fed d given taken → d.fault ≡ None → d.ended ≡ false → d.ready ≡ None → (d.buffer.items ≡ [] → ⊥) → rule_of m ≡ rule_of d → m.given ≡ d.given → m.spent ≡ d.spent
    → state_of d.section d.pending ≡ state_of m.section m.pending → m.buffer.items ≡ d.buffer.items → m.start ≡ d.start → m.finished ≡ d.finished → m.ended ≡ true
    → SameReader m e → AfterLine m e (step (rule_of m) (state_of m.section m.pending) m.buffer.items) → Fed e given taken
last_line d m e given taken fed none open_ quiet_ some rule count spent state buffer begins finished ended same after =
    let going = open_of d given taken open_ (going_of d given taken fed none) in
    record {
      sound = same.spent ∙ spent ∙ fed.sound;
      octets = fed.octets;
      count = same.given ∙ count ∙ fed.count;
      stands = last_by d m e given taken going quiet_ some rule state buffer begins finished same ended (step (rule_of m) (state_of m.section m.pending) m.buffer.items) refl after;
    }

-- ---- the answer
stopped_fault : (d : Dearmor) (fault : Fault) (given : List ℕ) (taken : List Event) → AreOctets given → d.ended ≡ true → Stopped d fault given taken → IsArmorFault (rule_of d) given fault
stopped_fault d fault given taken octets ended s =
    let are : lines given ≡ s.before ++ s.line ∷ s.after = subst (λ (v : Bool). lines_ended v given ≡ s.before ++ s.line ∷ s.after) ended s.are in
    let f = line_fault (rule_of d) given s.before s.line s.after s.last fault.reason d.low octets are s.ran s.stops in
    record {
      layer_is = s.in_armor;
      inner_is = s.inner;
      found = inl (record { before = f.before; line = f.line; after = f.after; are = f.are; opens = f.opens; refused = f.refused; why_is = f.why_is; block_is = s.block ∙ f.block_is; pos_is = s.pos ∙ f.pos_is });
    }

pub finish_stopped : (d : Dearmor) (fault : Fault) (given : List ℕ) (taken : List Event) → Fed d given taken → d.ended ≡ true → d.fault ≡ Some fault → IsArmorFault (rule_of d) given fault
finish_stopped d fault given taken fed ended is =
    stopped_fault d fault given taken (all_octets given fed.octets) ended (subst (λ (v : Option Fault). Stands d v given taken) is fed.stands)

-- the blocks of the events that were taken, outside of all blocks
pub finish_armored : (d : Dearmor) (given : List ℕ) (taken : List Event) → Fed d given taken → d.ended ≡ true → d.ready ≡ None → d.fault ≡ None → d.section ≡ Outside → 0 < d.finished
    → Armored (rule_of d) given (built taken).blocks
finish_armored d given taken fed ended none no_fault outside some =
    let going = going_of d given taken fed no_fault in
    let ran : run (rule_of d) (lines given) ≡ Ok going.last = subst (λ (v : Bool). run (rule_of d) (lines_ended v given) ≡ Ok going.last) ended going.ran in
    let events : going.last.events ≡ taken = going.events ∙ ap (λ (v : Option ArmorEvent). taken ++ events_of v) none ∙ append-nil taken in
    let upto = sound (rule_of d) (lines given) going.last ran in
    let section : going.last.state.section ≡ Outside = ap (λ (v : State). v.section) going.state ∙ outside in
    let stage : Stage d.limit Outside going.last.state.pending (built going.last.events) upto.open_ = subst (λ (v : Section). Stage d.limit v going.last.state.pending (built going.last.events) upto.open_) section upto.stage in
    let whole : upto.done ≡ lines given = sym (upto.are ∙ ap (λ (v : List Line). upto.done ++ v) stage.0 ∙ append-nil upto.done) in
    let blocks : (built going.last.events).blocks ≡ (built taken).blocks = ap (λ (v : List Event). (built v).blocks) events in
    record {
      whole = relist (rule_of d) upto.done (lines given) (built going.last.events).blocks (built taken).blocks whole blocks upto.pieces;
      some = omega (arith, going.finished, ap length blocks);
    }

-- the text ends too early
pub finish_early : (d : Dearmor) (given : List ℕ) (taken : List Event) (fault : Fault) → Fed d given taken → d.ended ≡ true → d.fault ≡ None → (d.section ≡ Outside → d.finished ≡ 0)
    → fault.layer ≡ layer.Armor → fault.inner ≡ 0 → fault.reason ≡ end_reason d.section → fault.block ≡ d.finished → fault.pos ≡ d.given → IsArmorFault (rule_of d) given fault
finish_early d given taken fault fed ended no_fault early layer_is inner_is reason_is block_is pos_is =
    let going = going_of d given taken fed no_fault in
    let ran : run (rule_of d) (lines given) ≡ Ok going.last = subst (λ (v : Bool). run (rule_of d) (lines_ended v given) ≡ Ok going.last) ended going.ran in
    let t = tracks (rule_of d) (lines given) going.last ran in
    let section : d.section ≡ going.last.state.section = ap (λ (v : State). v.section) (sym going.state) in
    record {
      layer_is = layer_is;
      inner_is = inner_is;
      found = inr (record {
        opens = extends (rule_of d) d.low (lines given) going.last (are_lines given (all_octets given fed.octets)) ran;
        refused = λ blocks a.
            let p = complete (rule_of d) (lines given) blocks a.whole in
            let same : p.last ≡ going.last = cc (sym p.ran ∙ ran) in
            let outside : d.section ≡ Outside = section ∙ ap (λ (v : Run). v.state.section) (sym same) ∙ ap (λ (v : State). v.section) p.outside in
            let count : length blocks ≡ d.finished = ap length (sym p.blocks_are) ∙ ap (λ (v : Run). length (built v.events).blocks) same ∙ sym going.finished in
            let zero_ : d.finished ≡ 0 = early outside in
            let some = a.some in
            absurd (omega arith);
        why_is = reason_is ∙ ap end_reason (section ∙ t.section);
        block_is = block_is ∙ going.finished ∙ t.finished;
        pos_is = pos_is ∙ fed.count;
      });
    }

-- a fault stays, whatever follows
stays_by : (d : Dearmor) (f : Fault) (given more : List ℕ) (taken : List Event) → IsOctets given → IsOctets more → d.ended ≡ false → Stopped d f given taken → IsArmorFault (rule_of d) (given ++ more) f
stays_by d f given more taken all rest open_ s =
    let later = fold_ended (cut given) more in
    let were : (cut given).ended ≡ s.before ++ s.line ∷ s.after = subst (λ (v : Bool). lines_ended v given ≡ s.before ++ s.line ∷ s.after) open_ s.are in
    let after : List Line = (s.after ++ later.0) ++ lines (cut (given ++ more)).tail in
    let are : lines (given ++ more) ≡ s.before ++ s.line ∷ after =
    lines_cut (given ++ more)
    ∙ ap (λ (v : List Line). v ++ lines (cut (given ++ more)).tail)
    (ap (λ (v : Cut). v.ended) (cut-more given more) ∙ later.1 ∙ ap (λ (v : List Line). v ++ later.0) were ∙ append_assoc s.before (s.line ∷ s.after) later.0)
    ∙ append_assoc s.before (s.line ∷ (s.after ++ later.0)) (lines (cut (given ++ more)).tail) in
    let octets : AreOctets (given ++ more) = octets-append given more (all_octets given all) (all_octets more rest) in
    let g = line_fault (rule_of d) (given ++ more) s.before s.line after s.last f.reason d.low octets are s.ran s.stops in
    record {
      layer_is = s.in_armor;
      inner_is = s.inner;
      found = inl (record { before = g.before; line = g.line; after = g.after; are = g.are; opens = g.opens; refused = g.refused; why_is = g.why_is; block_is = s.block ∙ g.block_is; pos_is = s.pos ∙ g.pos_is });
    }

pub a_fault_stays : (d : Dearmor) (given more : List ℕ) (taken : List Event) (f : Fault) → IsOctets more → d.ended ≡ false → Fed d given taken → d.fault ≡ Some f → IsArmorFault (rule_of d) (given ++ more) f
a_fault_stays d given more taken f rest open_ fed is =
    stays_by d f given more taken fed.octets rest open_ (subst (λ (v : Option Fault). Stands d v given taken) is fed.stands)

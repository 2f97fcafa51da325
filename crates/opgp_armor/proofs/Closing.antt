-- Whether a block is open behind lines: the machine's section and the events tell the same.
use Rattle.std.proofs.Common.{◌≡◌, ℕ, Bool, true, false, not, List, [], ◌∷◌, ◌++◌, refl, sym, ap, ◌∙◌, subst, Option, None, Some, Ok, Err, cond}
use Rattle.std.proofs.lemmas.List.{append-nil}
use Rattle.std.specs.declared.result.Result.{Result}
use Rattle.std.specs.Str.{bytes_eq}
use Rattle.std.proofs.Common.{◌+◌, nat_lt, length, take}
use Rattle.opgp_octets.specs.declared.fault.Reason.{Reason}
use Rattle.opgp_octets.specs.declared.fault.Reason.TheVariants as reason
use Rattle.opgp_octets.specs.declared.outside.Outside.{Outside as Policy}
use Rattle.opgp_octets.specs.declared.outside.Outside.TheVariants as policy
use Rattle.opgp_armor.specs.Rules.{LineRule}
use Rattle.opgp_armor.specs.declared.event.ArmorEvent.{ArmorEvent}
use Rattle.opgp_armor.specs.declared.label.Label.{Label}
use Rattle.opgp_armor.specs.declared.section.Section.{Section}
use Rattle.opgp_armor.specs.declared.section.Section.TheVariants.{Outside, Headers, Data, AfterChecksum}
use Rattle.opgp_armor.specs.declared.reader.Dearmor.{Dearmor}
use Rattle.opgp_armor.specs.Letters.{Pending, is_equals, data_line, no_letters}
use Rattle.opgp_armor.specs.Text.{Line, content, begin_line, end_line}
use Rattle.opgp_armor.specs.Armored.{is_dash, label_at, passes_by}
use Rattle.opgp_armor.specs.Events.{Event, Begin, Header, Octets, End, events_of, is_open_behind}
use Rattle.opgp_armor.specs.Machine.{Answer, Run, State, run, first, step, inside, on_blank, on_outside, on_begin, on_header, on_letters, closing, header_of, some_octets, waits}
use Rattle.opgp_armor.specs.Fed.{Fed, rule_of}
use Rattle.opgp_armor.proofs.Answer.{run_keeps}
use Rattle.opgp_armor.proofs.Feeding.{going_of}

is_inside : Section → Bool
is_inside Outside = false
is_inside (Headers label) = true
is_inside (Data label) = true
is_inside (AfterChecksum label) = true

open-append : (b : Bool) (es fs : List Event) → is_open_behind b (es ++ fs) ≡ is_open_behind (is_open_behind b es) fs
open-append b [] fs = refl
open-append b (Begin l ∷ es) fs = open-append true es fs
open-append b (Header key value ∷ es) fs = open-append b es fs
open-append b (Octets o ∷ es) fs = open-append b es fs
open-append b (End ∷ es) fs = open-append false es fs

-- what the machine answers for a line agrees with the events of that line
abbrev Agrees : Bool → Answer → Type 0
Agrees b (Err e) = Unit {0}
Agrees b (Ok (s, more)) = is_open_behind b more ≡ is_inside s.section

either : (b c : Bool) (x y : Answer) → Agrees b x → Agrees b y → Agrees b (cond c x y)
either b true x y h k = h
either b false x y h k = k

begins : (p : Pending) (o : Option Label) → Agrees false (on_begin o)
unfolding is_inside
begins p None = tt
begins p (Some l) = refl

heads : (l : Label) (p : Pending) (o : Option (List ℕ × List ℕ)) → Agrees true (on_header l p o)
unfolding is_inside
heads l p None = tt
heads l p (Some (key, value)) = refl

some_open : (o : List ℕ) → is_open_behind true (some_octets o) ≡ true
some_open [] = refl
some_open (x ∷ o) = refl

letters : (l : Label) (a : Result (Pending × List ℕ) Reason) → Agrees true (on_letters l a)
unfolding is_inside
letters l (Err e) = tt
letters l (Ok (p, o)) = some_open o

ends : (l : Label) (p : Pending) (c : List ℕ) → Agrees true (closing l p c)
unfolding closing is_inside
ends l p c =
    let out : Answer = Ok (record { section = Outside; pending = no_letters }, End ∷ []) in
    let late : Answer = Err reason.Padding in
    let wrong : Answer = Err reason.EndLabel in
    either true (not (bytes_eq c (end_line l))) wrong (cond (waits p) late out) tt (either true (waits p) late out tt refl)

insides : (s : Section) (p : Pending) (c : List ℕ) → Agrees (is_inside s) (inside s p c)
unfolding is_inside
insides Outside p c = begins p (label_at begin_line c)
insides (Headers l) p [] = refl
insides (Headers l) p (d ∷ c) = heads l p (header_of (d ∷ c))
insides (Data l) p [] = refl
insides (Data l) p (d ∷ c) =
    let sum : Answer = Ok (record { section = AfterChecksum l; pending = p }, []) in
    let late : Answer = Err reason.Padding in
    let shut : Answer = closing l p (d ∷ c) in
    let read : Answer = on_letters l (data_line p (d ∷ c)) in
    either true (is_equals d) (cond (waits p) late sum) (cond (is_dash d) shut read) (either true (waits p) late sum tt refl)
    (either true (is_dash d) shut read (ends l p (d ∷ c)) (letters l (data_line p (d ∷ c))))
insides (AfterChecksum l) p [] = refl
insides (AfterChecksum l) p (d ∷ c) =
    let shut : Answer = closing l p (d ∷ c) in
    let late : Answer = Err reason.AfterChecksum in
    either true (is_dash d) shut late (ends l p (d ∷ c)) tt

outsides : (o : Policy) (limit : ℕ) (s : State) (l : Line) → Agrees (is_inside s.section) (on_outside o limit s l)
outsides policy.Skip limit s l = refl
outsides policy.Refuse limit s l = by_content (content (take (limit + 1) l))
  where
    by_content : (c : List ℕ) → Agrees (is_inside s.section) (on_blank c (cond (nat_lt limit (length l)) (Err reason.LineTooLong) (Ok (s, []))))
    by_content (x ∷ c) = tt
    by_content [] = either (is_inside s.section) (nat_lt limit (length l)) (Err reason.LineTooLong) (Ok (s, [])) tt refl

steps : (rule : LineRule) (s : State) (l : Line) → Agrees (is_inside s.section) (step rule s l)
unfolding step
steps rule s l =
    let long : Answer = Err reason.LineTooLong in
    let on : Answer = inside s.section s.pending (content l) in
    either (is_inside s.section) (passes_by s.section l) (on_outside rule.outside rule.most s l) (cond (nat_lt rule.most (length l)) long on) (outsides rule.outside rule.most s l)
    (either (is_inside s.section) (nat_lt rule.most (length l)) long on tt (insides s.section s.pending (content l)))

abbrev Tells : List Line → Run → Type 0
Tells front r = is_open_behind false r.events ≡ is_inside r.state.section

agrees : (b : Bool) (a : Answer) (s : State) (more : List Event) → a ≡ Ok (s, more) → Agrees b a → is_open_behind b more ≡ is_inside s.section
agrees b a s more e h = let P : Answer → Type 0 = λ x. Agrees b x in subst P e h

told_more : (rule : LineRule) (q : Run) (l : Line) (s : State) (more : List Event) → is_open_behind false q.events ≡ is_inside q.state.section → step rule q.state l ≡ Ok (s, more)
    → is_open_behind false (q.events ++ more) ≡ is_inside s.section
told_more rule q l s more told e =
    open-append false q.events more ∙ ap (λ (b : Bool). is_open_behind b more) told ∙ agrees (is_inside q.state.section) (step rule q.state l) s more e (steps rule q.state l)

tells : (rule : LineRule) (ls : List Line) (r : Run) → run rule ls ≡ Ok r → is_open_behind false r.events ≡ is_inside r.state.section
unfolding is_inside
tells rule ls r h =
    run_keeps rule Tells (λ front q l s more told e. told_more rule q l s more told e) [] ls first r refl h

pub closes : (d : Dearmor) (given : List ℕ) (taken : List Event) → Fed d given taken → d.ready ≡ None → d.fault ≡ None → d.section ≡ Outside → is_open_behind false taken ≡ false
unfolding is_inside
closes d given taken fed none no_fault outside =
    let going = going_of d given taken fed no_fault in
    let events : going.last.events ≡ taken = going.events ∙ ap (λ (v : Option ArmorEvent). taken ++ events_of v) none ∙ append-nil taken in
    let section : going.last.state.section ≡ Outside = ap (λ (v : State). v.section) going.state ∙ outside in
    ap (is_open_behind false) (sym events) ∙ tells (rule_of d) _ going.last going.ran ∙ ap is_inside section

-- Each text is armored, or has one fault.
use Rattle.std.proofs.Common.{◌≡◌, ℕ, ◌+◌, ◌<◌, ◌≤◌, ◌%◌, ◌==◌, Bool, true, false, cond, not, ◌&&◌, ◌||◌, nat_lt, nat_eq, List, [], ◌∷◌, ◌++◌, length, take, refl, sym, ap, ◌∙◌, arith, inl, inr, ◌⊎◌, subst, Option, None, Some, Ok, Err}
use Rattle.std.proofs.lemmas.List.{append_assoc, append-nil, length-append}
use Rattle.std.proofs.lemmas.Bool.{cases_Bool, cases_lt, eqb-true}
use Rattle.std.specs.List.{fold, AllByRecursion, starts_with, list_all, list_any}
use Rattle.std.specs.Str.{bytes_eq}
use Rattle.std.specs.declared.result.Result.{Result}
use Rattle.base64.specs.Engines.{standard}
use Rattle.base64.specs.GeneralPurpose.{decoded_of}
use Rattle.opgp_armor.specs.Rules.{LineRule}
use Rattle.opgp_armor.specs.declared.label.Label.{Label}
use Rattle.opgp_armor.specs.declared.section.Section.{Section}
use Rattle.opgp_armor.specs.declared.section.Section.TheVariants.{Outside, Headers, Data, AfterChecksum}
use Rattle.opgp_octets.specs.declared.fault.Reason.{Reason}
use Rattle.opgp_octets.specs.declared.fault.Reason.TheVariants as reason
use Rattle.opgp_octets.specs.declared.outside.Outside.{Outside as Policy}
use Rattle.opgp_octets.specs.declared.outside.Outside.TheVariants as policy
use Rattle.opgp_armor.specs.Letters.{is_equals, may_stand, is_octet, Pending, data_line, after_groups, groups_of, rest_of}
use Rattle.opgp_octets.specs.Octets.{IsOctets}
use Rattle.opgp_armor.proofs.Octets.{AreOctets, all_octets}
use Rattle.opgp_armor.specs.Text.{Line, lines, content, offset, begin_mark, begin_line, end_line}
use Rattle.opgp_armor.specs.Armored.{Armored, Opens, label_at, Block, is_dash, Situation, opened_by, after_content, ended_by, after_line, situation, short_reason, passes_by, outside_reason, reason_of, LineFault, ArmorFault, end_reason}
use Rattle.opgp_armor.specs.Events.{Event, End, Built, absorb, built}
use Rattle.opgp_armor.specs.Machine.{State, Run, Answer, header_of, on_begin, on_header, on_letters, waits, closing, inside, on_blank, on_outside, step, start, onward, run_from, first, run}
use Rattle.opgp_armor.proofs.Lists.{fold-both, label_at_some}
use Rattle.opgp_armor.proofs.Sound.{Upto, Stage, passed, relist, sound, ok_pair, not_true, run_err, run-cons, run-nil, built_more}
use Rattle.opgp_armor.proofs.Complete.{complete, begins_mark}
use Rattle.opgp_armor.proofs.Texts.{IsLine, are_lines, recursion_front}
use Rattle.opgp_armor.proofs.Faults.{extends, stopped}

err_is : {X : Type 0} (a b : Reason) → ◌≡◌ {A = Result X Reason} (Err a) (Err b) → a ≡ b
err_is a b h = cc

-- ---- the reason
groups_reason : (rest : List ℕ) (d : Option (List ℕ)) (e : Reason) → after_groups rest d ≡ Err e → e ≡ reason.Padding
groups_reason rest None e h = cc
groups_reason rest (Some o) e h =
    let test : Bool = (not (list_all is_octet o) || list_any is_equals rest) || (not (length o % 3 == 0) && nat_lt 0 (length rest)) in
    elim (cases_Bool test) [
      | inl y ↦ cc (rw y at h)
      | inr n ↦ cc (rw n at h)
    ]

letters_reason : (p : Pending) (c : List ℕ) (e : Reason) → data_line p c ≡ Err e → e ≡ (cond (list_all may_stand c) reason.Padding reason.Letters)
unfolding data_line
letters_reason p c e h = elim (cases_Bool (list_all may_stand c)) [
  | inl y ↦ elim (cases_Bool p.padded) [
    | inl y2 ↦ rw y (cc (rw (y, y2) at h))
    | inr n2 ↦ rw y (groups_reason (rest_of (p.letters ++ c)) (decoded_of standard (groups_of (p.letters ++ c))) e (rw (y, n2) at h))
  ]
  | inr n ↦ rw n (cc (rw n at h))
]

closing_reason : (k : Label) (p : Pending) (c : List ℕ) (e : Reason) → closing k p c ≡ Err e → e ≡ (cond (bytes_eq c (end_line k)) reason.Padding reason.EndLabel)
unfolding closing
closing_reason k p c e h = elim (cases_Bool (bytes_eq c (end_line k))) [
  | inl y ↦ elim (cases_Bool (waits p)) [
    | inl y2 ↦ rw y (cc (rw (y, y2) at h))
    | inr n2 ↦ cc (rw (y, n2) at h)
  ]
  | inr n ↦ rw n (cc (rw n at h))
]

closing_ended : (k : Label) (p : Pending) (c : List ℕ) (e : Reason) → waits p ≡ false → closing k p c ≡ Err e → e ≡ reason.EndLabel
unfolding closing
closing_ended k p c e none h = elim (cases_Bool (bytes_eq c (end_line k))) [
  | inl y ↦ cc (rw (y, none) at h)
  | inr n ↦ cc (rw n at h)
]

begin_reason : (o : Option Label) (e : Reason) → on_begin o ≡ Err e → e ≡ reason.Label
begin_reason None e h = cc
begin_reason (Some k) e h = cc h

header_reason : (k : Label) (p : Pending) (o : Option (List ℕ × List ℕ)) (e : Reason) → on_header k p o ≡ Err e → e ≡ reason.Header
header_reason k p None e h = cc
header_reason k p (Some (key, value)) e h = cc h

on_letters_reason : (k : Label) (a : Result (Pending × List ℕ) Reason) (e : Reason) → on_letters k a ≡ Err e → a ≡ Err e
on_letters_reason k (Err d) e h = cc
on_letters_reason k (Ok (p, o)) e h = cc h

second : (a b : Bool) (x y z e : Reason) → a ≡ false → b ≡ true → e ≡ y → e ≡ cond a x (cond b y z)
second a b x y z e ha hb h = rw (ha, hb) h

third : (a b : Bool) (x y z e : Reason) → a ≡ false → b ≡ false → e ≡ z → e ≡ cond a x (cond b y z)
third a b x y z e ha hb h = rw (ha, hb) h

inside_reason : (limit : ℕ) (section : Section) (p : Pending) (b : Built) (ls : List Line) (c : List ℕ) (e : Reason) → Stage limit section p b ls → inside section p c ≡ Err e → e ≡ short_reason section c
inside_reason limit Outside p b ls c e stage h = begin_reason (label_at begin_line c) e h
inside_reason limit (Headers k) p b ls [] e stage h = cc h
inside_reason limit (Headers k) p b ls (x ∷ c) e stage h = header_reason k p (header_of (x ∷ c)) e h
inside_reason limit (Data k) p b ls [] e stage h = cc h
inside_reason limit (Data k) p b ls (x ∷ c) e stage h = elim (cases_Bool (is_equals x)) [
  | inl y ↦ elim (cases_Bool (waits p)) [
    | inl y2 ↦ rw y (cc (rw (y, y2) at h))
    | inr n2 ↦ cc (rw (y, n2) at h)
  ]
  | inr n ↦ elim (cases_Bool (is_dash x)) [
    | inl y ↦ second (is_equals x) (is_dash x) reason.Padding (cond (bytes_eq (x ∷ c) (end_line k)) reason.Padding reason.EndLabel) (cond (list_all may_stand (x ∷ c)) reason.Padding reason.Letters) e n y
        (closing_reason k p (x ∷ c) e (rw (n, y) at h))
    | inr n2 ↦ third (is_equals x) (is_dash x) reason.Padding (cond (bytes_eq (x ∷ c) (end_line k)) reason.Padding reason.EndLabel) (cond (list_all may_stand (x ∷ c)) reason.Padding reason.Letters) e n n2
        (letters_reason p (x ∷ c) e (on_letters_reason k (data_line p (x ∷ c)) e (rw (n, n2) at h)))
  ]
]
inside_reason limit (AfterChecksum k) p b ls [] e stage h = cc h
inside_reason limit (AfterChecksum k) p b ls (x ∷ c) e stage h = elim (cases_Bool (is_dash x)) [
  | inl y ↦ rw y (closing_ended k p (x ∷ c) e stage.4 (rw y at h))
  | inr n ↦ rw n (cc (rw n at h))
]

outside_is : (o : Policy) (limit : ℕ) (s : State) (l : Line) (e : Reason) → on_outside o limit s l ≡ Err e → e ≡ outside_reason (content (take (limit + 1) l))
outside_is policy.Skip limit s l e h = cc h
outside_is policy.Refuse limit s l e h = by_content (content (take (limit + 1) l)) h
  where
    by_content : (c : List ℕ) → on_blank c (cond (nat_lt limit (length l)) (Err reason.LineTooLong) (Ok (s, []))) ≡ Err e → e ≡ outside_reason c
    by_content (x ∷ c) k = cc k
    by_content [] k = elim (cases_Bool (nat_lt limit (length l))) [
      | inl y ↦ cc (rw y at k)
      | inr n ↦ cc (rw n at k)
    ]

step_reason : (rule : LineRule) (s : State) (b : Built) (ls : List Line) (l : Line) (e : Reason) → Stage rule.most s.section s.pending b ls → step rule s l ≡ Err e → e ≡ reason_of rule s.section l
unfolding step
step_reason rule s b ls l e stage h = elim (cases_Bool (passes_by s.section l)) [
  | inl y ↦ rw y (outside_is rule.outside rule.most s l e (rw y at h))
  | inr n ↦ elim (cases_Bool (nat_lt rule.most (length l))) [
    | inl y ↦ rw (n, y) (cc (rw (n, y) at h))
    | inr n2 ↦ rw (n, n2) (inside_reason rule.most s.section s.pending b ls (content l) e stage (rw (n, n2) at h))
  ]
]

-- ---- the situation
situation-more : (a b : List Line) → situation (a ++ b) ≡ fold after_line (situation a) b
unfolding situation
situation-more a b = fold-both after_line (record { section = Outside; finished = 0 }) a b

-- the machine stands where the situation says
pub record Tracks (ls : List Line) (r : Run) : Type 0 where
  pub section : r.state.section ≡ (situation ls).section
  pub finished : length (built r.events).blocks ≡ (situation ls).finished

ok_state : (s t : State) (more other : List Event) → ◌≡◌ {A = Answer} (Ok (t, other)) (Ok (s, more)) → (t ≡ s) × (other ≡ more)
ok_state s t more other h = ok_pair {E = Reason} t s other more h

-- what a step does to the section, and to the count of blocks
abbrev pub Moves : Section → List ℕ → Built → State → List Event → Type 0
Moves section c b s more = (s.section ≡ after_content section c) × (length (fold absorb b more).blocks ≡ length b.blocks + ended_by section c)

moved : (section : Section) (c : List ℕ) (b : Built) (s t : State) (more other : List Event) → ◌≡◌ {A = Answer} (Ok (t, other)) (Ok (s, more)) → Moves section c b t other → Moves section c b s more
moved section c b s t more other h m = let e = ok_state s t more other h in rw (← e.0, ← e.1) m

begin_moves : (o : Option Label) (b : Built) (s : State) (more : List Event) → on_begin o ≡ Ok (s, more) → (s.section ≡ opened_by o) × (length (fold absorb b more).blocks ≡ length b.blocks + 0)
begin_moves None b s more h = cc h
begin_moves (Some k) b s more h = let e = ok_state s _ more _ h in rw (← e.0, ← e.1) (refl, omega arith)

header_moves : (k : Label) (p : Pending) (o : Option (List ℕ × List ℕ)) (b : Built) (s : State) (more : List Event) → on_header k p o ≡ Ok (s, more) → (s.section ≡ Headers k) × (length (fold absorb b more).blocks ≡ length b.blocks + 0)
header_moves k p None b s more h = cc h
header_moves k p (Some (key, value)) b s more h = let e = ok_state s _ more _ h in rw (← e.0, ← e.1) (refl, omega arith)

letters_move : (k : Label) (a : Result (Pending × List ℕ) Reason) (b : Built) (s : State) (more : List Event) → on_letters k a ≡ Ok (s, more) → (s.section ≡ Data k) × (length (fold absorb b more).blocks ≡ length b.blocks + 0)
letters_move k (Err e) b s more h = cc h
letters_move k (Ok (p, [])) b s more h = let e = ok_state s _ more _ h in rw (← e.0, ← e.1) (refl, omega arith)
letters_move k (Ok (p, x ∷ o)) b s more h = let e = ok_state s _ more _ h in rw (← e.0, ← e.1) (refl, omega arith)

closing_moves : (k : Label) (p : Pending) (c : List ℕ) (b : Built) (s : State) (more : List Event) → closing k p c ≡ Ok (s, more) → (s.section ≡ Outside) × (length (fold absorb b more).blocks ≡ length b.blocks + 1)
unfolding closing
closing_moves k p c b s more h = elim (cases_Bool (bytes_eq c (end_line k))) [
  | inl y ↦ elim (cases_Bool (waits p)) [
    | inl y2 ↦ cc (rw (y, y2) at h)
    | inr n2 ↦ let e = ok_state s start more (End ∷ []) (rw (y, n2) at h) in rw (← e.0, ← e.1) (refl, length-append b.blocks _)
  ]
  | inr n ↦ cc (rw n at h)
]

inside_moves : (section : Section) (p : Pending) (c : List ℕ) (b : Built) (s : State) (more : List Event) → inside section p c ≡ Ok (s, more) → Moves section c b s more
inside_moves Outside p c b s more h = begin_moves (label_at begin_line c) b s more h
inside_moves (Headers k) p [] b s more h = moved (Headers k) [] b s (record { section = Data k; pending = p }) more [] h (refl, omega arith)
inside_moves (Headers k) p (x ∷ c) b s more h = header_moves k p (header_of (x ∷ c)) b s more h
inside_moves (Data k) p [] b s more h = moved (Data k) [] b s (record { section = Data k; pending = p }) more [] h (refl, omega arith)
inside_moves (Data k) p (x ∷ c) b s more h = elim (cases_Bool (is_equals x)) [
  | inl y ↦ elim (cases_Bool (waits p)) [
    | inl y2 ↦ cc (rw (y, y2) at h)
    | inr n2 ↦ let none : is_dash x ≡ false = rw (eqb-true x 61 y) refl in
        let e = ok_state s (record { section = AfterChecksum k; pending = p }) more [] (rw (y, n2) at h) in
        rw (← e.0, ← e.1, y, none) (refl, omega arith)
  ]
  | inr n ↦ elim (cases_Bool (is_dash x)) [
    | inl y ↦ let m = closing_moves k p (x ∷ c) b s more (rw (n, y) at h) in rw (n, y) m
    | inr n2 ↦ let m = letters_move k (data_line p (x ∷ c)) b s more (rw (n, n2) at h) in rw (n, n2) m
  ]
]
inside_moves (AfterChecksum k) p [] b s more h = moved (AfterChecksum k) [] b s (record { section = AfterChecksum k; pending = p }) more [] h (refl, omega arith)
inside_moves (AfterChecksum k) p (x ∷ c) b s more h = elim (cases_Bool (is_dash x)) [
  | inl y ↦ let m = closing_moves k p (x ∷ c) b s more (rw y at h) in rw y m
  | inr n ↦ cc (rw n at h)
]

no_label : (l : Line) (o : Option Label) → ((k : Label) → o ≡ Some k → content l ≡ begin_line k) → starts_with nat_eq l begin_mark ≡ false → opened_by o ≡ Outside
no_label l None f h = refl
no_label l (Some k) f h = cc (sym (begins_mark k l (f k refl)) ∙ h)

passing_moves : (section : Section) (l : Line) → passes_by section l ≡ true → (section ≡ after_content section (content l)) × (0 ≡ ended_by section (content l))
passing_moves Outside l h = (sym (no_label l (label_at begin_line (content l)) (λ k e. label_at_some begin_line (content l) k e) (not_true _ h)), refl)
passing_moves (Headers k) l h = cc h
passing_moves (Data k) l h = cc h
passing_moves (AfterChecksum k) l h = cc h

pub step_moves : (rule : LineRule) (s t : State) (b : Built) (l : Line) (more : List Event) → step rule s l ≡ Ok (t, more) → Moves s.section (content l) b t more
unfolding step
step_moves rule s t b l more h = elim (cases_Bool (passes_by s.section l)) [
  | inl y ↦
      let e = passed rule.outside rule.most s t l more (rw y at h) in
      let m = passing_moves s.section l y in
      rw (← e.0, ← e.1) (m.0, omega (arith, m.1))
  | inr n ↦ elim (cases_Bool (nat_lt rule.most (length l))) [
    | inl y ↦ cc (rw (n, y) at h)
    | inr n2 ↦ inside_moves s.section s.pending (content l) b t more (rw (n, n2) at h)
  ]
]

step_tracks : (rule : LineRule) (ls : List Line) (r : Run) (l : Line) (s : State) (more : List Event) → Tracks ls r → step rule r.state l ≡ Ok (s, more)
    → Tracks (ls ++ l ∷ []) (record { state = s; events = r.events ++ more })
step_tracks rule ls r l s more t h =
    let m = step_moves rule r.state s (built r.events) l more h in
    let sit : situation (ls ++ l ∷ []) ≡ after_line (situation ls) l = situation-more ls (l ∷ []) in
    let now : built (r.events ++ more) ≡ fold absorb (built r.events) more = built_more r.events more in
    record {
      section = m.0 ∙ ap (λ (v : Section). after_content v (content l)) t.section ∙ ap (λ (v : Situation). v.section) (sym sit);
      finished = ap (λ (v : Built). length v.blocks) now ∙ m.1 ∙ ap (λ (v : ℕ). v + ended_by r.state.section (content l)) t.finished
          ∙ ap (λ (v : Section). (situation ls).finished + ended_by v (content l)) t.section ∙ ap (λ (v : Situation). v.finished) (sym sit);
    }

-- ---- what each step keeps, a run keeps
run_step : (rule : LineRule) (P : List Line → Run → Type 0)
    → ((front : List Line) (r : Run) (l : Line) (s : State) (more : List Event) → P front r → step rule r.state l ≡ Ok (s, more) → P (front ++ l ∷ []) (record { state = s; events = r.events ++ more }))
    → (front : List Line) (l : Line) (ls : List Line) (r q : Run) → P front r
    → ((m : Run) → P (front ++ l ∷ []) m → run_from rule (Ok m) ls ≡ Ok q → P ((front ++ l ∷ []) ++ ls) q)
    → (a : Answer) → step rule r.state l ≡ a → run_from rule (onward r.events a) ls ≡ Ok q → P (front ++ l ∷ ls) q
run_step rule P keeps front l ls r q p again (Err e) is k = cc (sym (run_err rule e ls) ∙ k)
run_step rule P keeps front l ls r q p again (Ok (s, more)) is k =
    subst (λ (v : List Line). P v q) (append_assoc front (l ∷ []) ls) (again (record { state = s; events = r.events ++ more }) (keeps front r l s more p is) k)

pub run_keeps : (rule : LineRule) (P : List Line → Run → Type 0)
    → ((front : List Line) (r : Run) (l : Line) (s : State) (more : List Event) → P front r → step rule r.state l ≡ Ok (s, more) → P (front ++ l ∷ []) (record { state = s; events = r.events ++ more }))
    → (front ls : List Line) (r q : Run) → P front r → run_from rule (Ok r) ls ≡ Ok q → P (front ++ ls) q
run_keeps rule P keeps front [] r q p h =
    let e : r ≡ q = cc (sym (run-nil rule (Ok r)) ∙ h) in
    subst (λ (v : List Line). P v q) (sym (append-nil front)) (subst (P front) e p)
run_keeps rule P keeps front (l ∷ ls) r q p h =
    run_step rule P keeps front l ls r q p (λ m one k. run_keeps rule P keeps (front ++ l ∷ []) ls m q one k) (step rule r.state l) refl (sym (run-cons rule (Ok r) l ls) ∙ h)

tracks_first : Tracks [] first
unfolding situation built
tracks_first = record { section = refl; finished = refl }

pub tracks : (rule : LineRule) (ls : List Line) (r : Run) → run rule ls ≡ Ok r → Tracks ls r
tracks rule ls r h = run_keeps rule Tracks (λ front q l s more t k. step_tracks rule front q l s more t k) [] ls first r tracks_first h

-- ---- the first line that stops
record Stop (rule : LineRule) (r : Run) (ls : List Line) (e : Reason) : Type 0 where
  before : List Line
  line : Line
  after : List Line
  are : ls ≡ before ++ line ∷ after
  last : Run
  ran : run_from rule (Ok r) before ≡ Ok last
  stops : step rule last.state line ≡ Err e

stop_at : (rule : LineRule) (r : Run) (l : Line) (ls : List Line) (e : Reason) → ((m : Run) → run_from rule (Ok m) ls ≡ Err e → Stop rule m ls e)
    → (a : Answer) → step rule r.state l ≡ a → run_from rule (onward r.events a) ls ≡ Err e → Stop rule r (l ∷ ls) e
stop_at rule r l ls e again (Err d) is h =
    let same : d ≡ e = err_is d e (sym (run_err rule d ls) ∙ h) in
    record { before = []; line = l; after = ls; are = refl; last = r; ran = run-nil rule (Ok r); stops = is ∙ ap (λ (v : Reason). Err v) same }
stop_at rule r l ls e again (Ok (s, more)) is h =
    let m : Run = record { state = s; events = r.events ++ more } in
    let a = again m h in
    record {
      before = l ∷ a.before;
      line = a.line;
      after = a.after;
      are = ap (λ (v : List Line). l ∷ v) a.are;
      last = a.last;
      ran = run-cons rule (Ok r) l a.before ∙ ap (λ (v : Answer). run_from rule (onward r.events v) a.before) is ∙ a.ran;
      stops = a.stops;
    }

find_stop : (rule : LineRule) (r : Run) (ls : List Line) (e : Reason) → run_from rule (Ok r) ls ≡ Err e → Stop rule r ls e
find_stop rule r [] e h = cc (sym (run-nil rule (Ok r)) ∙ h)
find_stop rule r (l ∷ ls) e h = stop_at rule r l ls e (λ m k. find_stop rule m ls e k) (step rule r.state l) refl (sym (run-cons rule (Ok r) l ls) ∙ h)

-- A text whose lines stop the machine has this fault.
pub line_fault : (rule : LineRule) (text : List ℕ) (before : List Line) (l : Line) (after : List Line) (r : Run) (e : Reason) → 128 ≤ rule.most → AreOctets text
    → lines text ≡ before ++ l ∷ after → run rule before ≡ Ok r → step rule r.state l ≡ Err e
    → LineFault rule text e (length (built r.events).blocks) (offset before)
line_fault rule text before l after r e large octets are ran stops =
    let whole : AllByRecursion IsLine (before ++ l ∷ after) = subst (AllByRecursion IsLine) are (are_lines text octets) in
    let upto = sound rule before r ran in
    let t = tracks rule before r ran in
    record {
      before = before;
      line = l;
      after = after;
      are = are;
      opens = extends rule large before r (recursion_front IsLine before (l ∷ after) whole) ran;
      refused = stopped rule before l r e ran stops;
      why_is = step_reason rule r.state (built r.events) upto.open_ l e upto.stage stops ∙ ap (λ (v : Section). reason_of rule v l) t.section;
      block_is = t.finished;
      pos_is = refl;
    }

-- ---- one answer
-- of two fronts of one list the shorter begins the longer
shorter : (a b : List Line) (x y : Line) (us vs : List Line) → a ++ x ∷ us ≡ b ++ y ∷ vs → length a < length b → (middle : List Line) × (b ≡ a ++ x ∷ middle)
shorter a [] x y us vs e h = absurd (omega arith)
shorter [] (z ∷ b) x y us vs e h = let e0 : x ≡ z = cc in (b, ap (λ v. v ∷ b) (sym e0))
shorter (w ∷ a) (z ∷ b) x y us vs e h =
    let e0 : w ≡ z = cc in
    let e1 : a ++ x ∷ us ≡ b ++ y ∷ vs = cc in
    let more = shorter a b x y us vs e1 (omega arith) in
    (more.0, ap (λ v. z ∷ v) more.1 ∙ ap (λ v. v ∷ (a ++ x ∷ more.0)) (sym e0))

same_section : (a b : List Line) (x y : Line) (us vs : List Line) → a ++ x ∷ us ≡ b ++ y ∷ vs → length a ≡ length b → (a ≡ b) × (x ≡ y)
same_section [] [] x y us vs e h = (refl, cc)
same_section (w ∷ a) (z ∷ b) x y us vs e h =
    let e0 : w ≡ z = cc in
    let e1 : a ++ x ∷ us ≡ b ++ y ∷ vs = cc in
    let more = same_section a b x y us vs e1 (omega arith) in
    (rw (e0, more.0) refl, more.1)
same_section [] (z ∷ b) x y us vs e h = absurd (omega arith)
same_section (w ∷ a) [] x y us vs e h = absurd (omega arith)

opens_front : (rule : LineRule) (a b : List Line) → Opens rule (a ++ b) → Opens rule a
opens_front rule a b o = record { text = o.text; blocks = o.blocks; more = b ++ o.more; octets = o.octets; armored = o.armored; begins = o.begins ∙ append_assoc a b o.more }

no_later : (rule : LineRule) (a b : List Line) (x y : Line) (us vs : List Line) → a ++ x ∷ us ≡ b ++ y ∷ vs → length a < length b → Opens rule b → (Opens rule (a ++ x ∷ []) → ⊥) → ⊥
no_later rule a b x y us vs e h opens refused =
    let s = shorter a b x y us vs e h in
    let is : b ≡ (a ++ x ∷ []) ++ s.0 = s.1 ∙ sym (append_assoc a (x ∷ []) s.0) in
    refused (opens_front rule (a ++ x ∷ []) s.0 (subst (Opens rule) is opens))

pub one_line_fault : (rule : LineRule) (text : List ℕ) (why why' : Reason) (block block' pos pos' : ℕ) → LineFault rule text why block pos → LineFault rule text why' block' pos'
    → (why ≡ why') × (block ≡ block') × (pos ≡ pos')
one_line_fault rule text why why' block block' pos pos' f g =
    let e : f.before ++ f.line ∷ f.after ≡ g.before ++ g.line ∷ g.after = sym f.are ∙ g.are in
    elim (cases_lt (length f.before) (length g.before)) [
      | inl lt ↦ absurd (no_later rule f.before g.before f.line g.line f.after g.after e lt g.opens f.refused)
      | inr ge ↦ elim (cases_lt (length g.before) (length f.before)) [
        | inl gt ↦ absurd (no_later rule g.before f.before g.line f.line g.after f.after (sym e) gt f.opens g.refused)
        | inr le ↦
            let s = same_section f.before g.before f.line g.line f.after g.after e (omega arith) in (
              f.why_is ∙ ap (λ (v : List Line). reason_of rule (situation v).section f.line) s.0 ∙ ap (λ (v : Line). reason_of rule (situation g.before).section v) s.1 ∙ sym g.why_is,
              f.block_is ∙ ap (λ (v : List Line). (situation v).finished) s.0 ∙ sym g.block_is,
              f.pos_is ∙ ap offset s.0 ∙ sym g.pos_is,
            )
      ]
    ]

not_both : (rule : LineRule) (text : List ℕ) (why : Reason) (block pos : ℕ) → LineFault rule text why block pos → Opens rule (lines text) → ⊥
not_both rule text why block pos f opens =
    f.refused (opens_front rule (f.before ++ f.line ∷ []) f.after (subst (Opens rule) (f.are ∙ sym (append_assoc f.before (f.line ∷ []) f.after)) opens))

pub one_fault : (rule : LineRule) (text : List ℕ) (why why' : Reason) (block block' pos pos' : ℕ) → ArmorFault rule text why block pos → ArmorFault rule text why' block' pos'
    → (why ≡ why') × (block ≡ block') × (pos ≡ pos')
one_fault rule text why why' block block' pos pos' (inl f) (inl g) = one_line_fault rule text why why' block block' pos pos' f g
one_fault rule text why why' block block' pos pos' (inl f) (inr g) = absurd (not_both rule text why block pos f g.opens)
one_fault rule text why why' block block' pos pos' (inr f) (inl g) = absurd (not_both rule text why' block' pos' g f.opens)
one_fault rule text why why' block block' pos pos' (inr f) (inr g) = (f.why_is ∙ sym g.why_is, f.block_is ∙ sym g.block_is, f.pos_is ∙ sym g.pos_is)

pub one_list : (rule : LineRule) (text : List ℕ) (a b : List Block) → Armored rule text a → Armored rule text b → a ≡ b
one_list rule text a b x y =
    let p = complete rule (lines text) a x.whole in
    let q = complete rule (lines text) b y.whole in
    let e : ◌≡◌ {A = Result Run Reason} (Ok p.last) (Ok q.last) = sym p.ran ∙ q.ran in
    let same : p.last ≡ q.last = cc in
    sym p.blocks_are ∙ ap (λ (v : Run). (built v.events).blocks) same ∙ q.blocks_are

pub no_fault : (rule : LineRule) (text : List ℕ) (blocks : List Block) (why : Reason) (block pos : ℕ) → IsOctets text → Armored rule text blocks → ArmorFault rule text why block pos → ⊥
no_fault rule text blocks why block pos octets a (inl f) =
    not_both rule text why block pos f (record { text = text; blocks = blocks; more = []; octets = octets; armored = a; begins = sym (append-nil (lines text)) })
no_fault rule text blocks why block pos octets a (inr f) = f.refused blocks a

-- ---- some answer
abbrev pub Answered : LineRule → List ℕ → Type 0
Answered rule text = ((blocks : List Block) × Armored rule text blocks) ⊎ ((why : Reason) × (block : ℕ) × (pos : ℕ) × ArmorFault rule text why block pos)

-- a run that isn't outside ends no armored text
pub open_yet : (rule : LineRule) (text : List ℕ) (r : Run) → run rule (lines text) ≡ Ok r → (r.state.section ≡ Outside → ⊥) → (blocks : List Block) → Armored rule text blocks → ⊥
open_yet rule text r ran n blocks a =
    let p = complete rule (lines text) blocks a.whole in
    let same : r ≡ p.last = cc (sym ran ∙ p.ran) in
    n (ap (λ (v : Run). v.state.section) same ∙ ap (λ (v : State). v.section) p.outside)

-- the run is over: outside of all blocks, with some of them finished, or too early
ended_section : (rule : LineRule) (text : List ℕ) (r : Run) (section : Section) → section ≡ r.state.section → run rule (lines text) ≡ Ok r → Upto rule (lines text) r
    → ((blocks : List Block) × Armored rule text blocks) ⊎ ((blocks : List Block) → Armored rule text blocks → ⊥)
ended_section rule text r Outside is ran upto =
    let stage : Stage rule.most Outside r.state.pending (built r.events) upto.open_ = subst (λ (v : Section). Stage rule.most v r.state.pending (built r.events) upto.open_) (sym is) upto.stage in
    let whole : upto.done ≡ lines text = sym (upto.are ∙ ap (λ (v : List Line). upto.done ++ v) stage.0 ∙ append-nil upto.done) in
    elim (cases_lt 0 (length (built r.events).blocks)) [
      | inl some ↦ inl ((built r.events).blocks, record { whole = relist rule upto.done (lines text) (built r.events).blocks (built r.events).blocks whole refl upto.pieces; some = some })
      | inr none ↦ inr (λ blocks a.
          let p = complete rule (lines text) blocks a.whole in
          let same : p.last ≡ r = cc (sym p.ran ∙ ran) in
          let count : length blocks ≡ length (built r.events).blocks = ap length (sym p.blocks_are) ∙ ap (λ (v : Run). length (built v.events).blocks) same in
          let some = a.some in
          absurd (omega arith))
    ]
ended_section rule text r (Headers k) is ran upto = inr (open_yet rule text r ran (λ e. let f : Headers k ≡ Outside = is ∙ e in cc f))
ended_section rule text r (Data k) is ran upto = inr (open_yet rule text r ran (λ e. let f : Data k ≡ Outside = is ∙ e in cc f))
ended_section rule text r (AfterChecksum k) is ran upto = inr (open_yet rule text r ran (λ e. let f : AfterChecksum k ≡ Outside = is ∙ e in cc f))

pub some_answer : (rule : LineRule) (text : List ℕ) → 128 ≤ rule.most → IsOctets text → Answered rule text
some_answer rule text large all = by_run_ (run rule (lines text)) refl
  where
    octets : AreOctets text
    octets = all_octets text all

    by_run_ : (a : Result Run Reason) → run rule (lines text) ≡ a → Answered rule text
    by_run_ (Err e) is =
        let s = find_stop rule first (lines text) e is in
        inr (e, length (built s.last.events).blocks, offset s.before, inl (line_fault rule text s.before s.line s.after s.last e large octets s.are s.ran s.stops))
    by_run_ (Ok r) is =
        let upto = sound rule (lines text) r is in
        let t = tracks rule (lines text) r is in
        elim (ended_section rule text r r.state.section refl is upto) [
          | inl a ↦ inl a
          | inr none ↦ inr (
            end_reason r.state.section,
            length (built r.events).blocks,
            length text,
            inr (record {
              opens = extends rule large (lines text) r (are_lines text octets) is;
              refused = none;
              why_is = ap end_reason t.section;
              block_is = t.finished;
              pos_is = refl;
            }),
          )
        ]

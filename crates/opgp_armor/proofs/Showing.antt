-- The events of a run are those that the lines make.
use Rattle.std.proofs.Common.{◌≡◌, ℕ, ◌≤◌, Bool, true, false, cond, nat_lt, nat_eq, List, [], ◌∷◌, ◌++◌, length, refl, sym, ap, ◌∙◌, inl, inr, ◌⊎◌, subst, Option, None, Some, Ok, Err}
use Rattle.std.proofs.lemmas.List.{append_assoc, append-nil, append_cancel_left}
use Rattle.base64.specs.Engines.{standard}
use Rattle.base64.specs.GeneralPurpose.{decoded_of}
use Rattle.std.proofs.lemmas.Bool.{cases_Bool, eqb-true, ltb-false}
use Rattle.std.specs.List.{fold, starts_with, AllByRecursion}
use Rattle.std.specs.Str.{bytes_eq}
use Rattle.std.specs.declared.result.Result.{Result}
use Rattle.opgp_octets.specs.declared.fault.Reason.{Reason}
use Rattle.opgp_armor.specs.Rules.{LineRule}
use Rattle.opgp_armor.specs.declared.label.Label.{Label}
use Rattle.opgp_armor.specs.declared.section.Section.{Section}
use Rattle.opgp_armor.specs.declared.section.Section.TheVariants.{Outside, Headers, Data, AfterChecksum}
use Rattle.opgp_armor.specs.Letters.{is_equals, base64_of, IsBase64, groups_of, Pending, no_letters, data_line}
use Rattle.opgp_armor.specs.Text.{Line, content, begin_mark, begin_line, end_line}
use Rattle.opgp_armor.specs.Armored.{Opens, IsHeader, begins_with, is_dash, label_at, after_content, passes_by}
use Rattle.opgp_armor.specs.Events.{Event, Begin, Header, End, Built, absorb, built}
use Rattle.opgp_armor.specs.Machine.{State, Run, Answer, header_of, on_begin, on_header, on_letters, some_octets, waits, closing, inside, step, start, first, run}
use Rattle.opgp_armor.specs.Shown.{Standing, letters_after, after_standing, begun, EndsGroups, LineMakes, Makes, at_start, Shown}
use Rattle.opgp_armor.proofs.Octets.{AreOctets, each_octet, all_octets}
use Rattle.opgp_armor.proofs.Standard.{decoded_some}
use Rattle.opgp_armor.proofs.Awaiting.{Holds}
use Rattle.opgp_armor.proofs.DataLine.{data_line_holds, holds_groups}
use Rattle.opgp_armor.proofs.Lists.{fold-both, label_at_some}
use Rattle.opgp_armor.proofs.HeaderLines.{header_is, header_found, header_of-nil, some_pair}
use Rattle.opgp_armor.proofs.Sound.{ok_pair, passed, letters_nil, built_more, not_true}
use Rattle.opgp_armor.proofs.Complete.{begins_mark}
use Rattle.opgp_armor.proofs.Texts.{IsLine}
use Rattle.opgp_armor.proofs.Faults.{extends, stopped}
use Rattle.opgp_armor.proofs.Answer.{step_moves, run_keeps}

-- one line more
pub makes-append : (limit : ℕ) (s : Standing) (ls : List Line) (l : Line) (events more : List Event) → Makes limit s ls events
    → (let t : Standing = fold after_standing s ls in LineMakes limit t.section t.letters l more) → Makes limit s (ls ++ l ∷ []) (events ++ more)
makes-append limit s [] l events more made here = (more, [], ap (λ (v : List Event). v ++ more) made ∙ sym (append-nil more), here, refl)
makes-append limit s (k ∷ ls) l events more made here =
    (made.0, made.1 ++ more, ap (λ (v : List Event). v ++ more) made.2 ∙ append_assoc made.0 made.1 more, made.3, makes-append limit (after_standing s k) ls l made.1 more made.4 here)

-- what the machine keeps of the letters of a block so far
abbrev pub Knows : Section → List ℕ → List ℕ → Pending → Type 0
Knows Outside letters octets p = Unit {0}
Knows (Headers k) letters octets p = (octets ≡ []) × (p ≡ no_letters)
Knows (Data k) letters octets p = Holds letters octets p
Knows (AfterChecksum k) letters octets p = Unit {0}

-- what a line does is what it makes
record Told (limit : ℕ) (section : Section) (letters : List ℕ) (b : Built) (l : Line) (s : State) (more : List Event) : Type 0 where
  made : LineMakes limit section letters l more
  knows : Knows s.section (letters_after section letters (content l)) (fold absorb b more).octets s.pending

ends_none : (letters octets : List ℕ) (p : Pending) → Holds letters octets p → EndsGroups letters [] []
ends_none letters octets p held =
    let is : IsBase64 (groups_of letters) octets = (each_octet octets held.are_octets, holds_groups letters octets p held) in
    record { before = octets; more = []; were = is; are = rw (append-nil letters, append-nil octets) is; made = refl }

module _ (limit : ℕ) (w : List ℕ) (b : Built) (p : Pending) (l : Line) (within : length l ≤ limit) (s : State) (more : List Event) where
  begin_told : (o : Option Label) → o ≡ label_at begin_line (content l) → on_begin o ≡ Ok (s, more) → Told limit Outside w b l s more
  begin_told None is h = cc h
  begin_told (Some k) is h =
      let e = ok_pair {E = Reason} (record { section = Headers k; pending = no_letters }) s (Begin k ∷ []) more h in
      rw (← e.0, ← e.1) (record { made = ap begun is; knows = (refl, refl) })

  gap_told : (k : Label) → [] ≡ content l → Knows (Headers k) w b.octets p → ◌≡◌ {A = Answer} (Ok (record { section = Data k; pending = p }, [])) (Ok (s, more)) → Told limit (Headers k) w b l s more
  gap_told k is knows h =
      let e = ok_pair {E = Reason} (record { section = Data k; pending = p }) s [] more h in
      rw (← e.0, ← e.1) (record { made = inl (sym is, refl); knows = rw (knows.0, knows.1) letters_nil })

  header_told : (k : Label) (o : Option (List ℕ × List ℕ)) → o ≡ header_of (content l) → Knows (Headers k) w b.octets p → on_header k p o ≡ Ok (s, more) → Told limit (Headers k) w b l s more
  header_told k None is knows h = cc h
  header_told k (Some (key, value)) is knows h =
      let e = ok_pair {E = Reason} (record { section = Headers k; pending = p }) s (Header key value ∷ []) more h in
      let parts = header_is (content l) key value (sym is) in
      rw (← e.0, ← e.1) (record {
        made = inr ((key, value), record { named = parts.named_; plain = parts.plain; spelled = parts.spelled; within = within }, refl);
        knows = knows;
      })

  blank_told : (k : Label) → [] ≡ content l → Holds w b.octets p → ◌≡◌ {A = Answer} (Ok (record { section = Data k; pending = p }, [])) (Ok (s, more)) → Told limit (Data k) w b l s more
  blank_told k is held h =
      let e = ok_pair {E = Reason} (record { section = Data k; pending = p }) s [] more h in
      rw (← e.0, ← e.1) (record {
        made = inr (inr (ap (begins_with is_equals) (sym is), ap (begins_with is_dash) (sym is), subst (λ (v : List ℕ). EndsGroups w v []) is (ends_none w b.octets p held)));
        knows = subst (λ (v : List ℕ). Holds v b.octets p) (sym (append-nil w) ∙ ap (λ (v : List ℕ). w ++ v) is) held;
      })

  letters_told : (k : Label) (a : Result (Pending × List ℕ) Reason) → a ≡ data_line p (content l) → begins_with is_equals (content l) ≡ false → begins_with is_dash (content l) ≡ false → Holds w b.octets p
      → on_letters k a ≡ Ok (s, more) → Told limit (Data k) w b l s more
  letters_told k (Err x) is n1 n2 held h = cc h
  letters_told k (Ok (q, o)) is n1 n2 held h =
      let e = ok_pair {E = Reason} (record { section = Data k; pending = q }) s (some_octets o) more h in
      let now : Holds (w ++ content l) (b.octets ++ o) q = data_line_holds p (content l) w b.octets (q, o) held (sym is) in
      let octets : (fold absorb b (some_octets o)).octets ≡ b.octets ++ o = built_octets o in
      rw (← e.0, ← e.1) (record {
        made = inr (inr (
          n1,
          n2,
          record {
            before = b.octets;
            more = o;
            were = (each_octet b.octets held.are_octets, holds_groups w b.octets p held);
            are = (each_octet (b.octets ++ o) now.are_octets, holds_groups (w ++ content l) (b.octets ++ o) q now);
            made = refl;
          },
        ));
        knows = rw octets now;
      })
    where
      built_octets : (o : List ℕ) → (fold absorb b (some_octets o)).octets ≡ b.octets ++ o
      built_octets [] = sym (append-nil b.octets)
      built_octets (x ∷ o) = refl

  closing_is : (k : Label) → closing k p (content l) ≡ Ok (s, more) → (start ≡ s) × (End ∷ [] ≡ more)
  unfolding closing
  closing_is k h = elim (cases_Bool (bytes_eq (content l) (end_line k))) [
    | inl y ↦ elim (cases_Bool (waits p)) [
      | inl y2 ↦ cc (rw (y, y2) at h)
      | inr n2 ↦ ok_pair {E = Reason} start s (End ∷ []) more (rw (y, n2) at h)
    ]
    | inr n ↦ cc (rw n at h)
  ]

  inside_told : (section : Section) (c : List ℕ) → c ≡ content l → Knows section w b.octets p → inside section p c ≡ Ok (s, more) → Told limit section w b l s more
  inside_told Outside c is knows h = begin_told (label_at begin_line c) (ap (label_at begin_line) is) h
  inside_told (Headers k) [] is knows h = gap_told k is knows h
  inside_told (Headers k) (x ∷ c) is knows h = header_told k (header_of (x ∷ c)) (ap header_of is) knows h
  inside_told (Data k) [] is knows h = blank_told k is knows h
  inside_told (Data k) (x ∷ c) is knows h = elim (cases_Bool (is_equals x)) [
    | inl y ↦ elim (cases_Bool (waits p)) [
      | inl y2 ↦ cc (rw (y, y2) at h)
      | inr n2 ↦
          let e = ok_pair {E = Reason} (record { section = AfterChecksum k; pending = p }) s [] more (rw (y, n2) at h) in
          rw (← e.0, ← e.1) (record { made = inl (rw (← is) y, refl); knows = tt })
    ]
    | inr n ↦ elim (cases_Bool (is_dash x)) [
      | inl y ↦
          let e = closing_is k (rw (← is) (rw (n, y) at h)) in
          rw (← e.0, ← e.1) (record { made = inr (inl (rw (← is) y, refl)); knows = tt })
      | inr n2 ↦ letters_told k (data_line p (x ∷ c)) (ap (data_line p) is) (rw (← is) n) (rw (← is) n2) knows (rw (n, n2) at h)
    ]
  ]
  inside_told (AfterChecksum k) [] is knows h =
      let e = ok_pair {E = Reason} (record { section = AfterChecksum k; pending = p }) s [] more h in
      rw (← e.0, ← e.1) (record { made = ap (λ (v : List ℕ). cond (begins_with is_dash v) (End ∷ []) []) is; knows = tt })
  inside_told (AfterChecksum k) (x ∷ c) is knows h = elim (cases_Bool (is_dash x)) [
    | inl y ↦
        let e = closing_is k (rw (← is) (rw y at h)) in
        rw (← e.0, ← e.1) (record { made = dashed (x ∷ c) is y; knows = tt })
    | inr n ↦ cc (rw n at h)
  ]
    where
      dashed : (c : List ℕ) → c ≡ content l → begins_with is_dash c ≡ true → End ∷ [] ≡ cond (begins_with is_dash (content l)) (End ∷ []) []
      dashed c is y = ap (λ (v : Bool). cond v (End ∷ []) []) (sym y ∙ ap (begins_with is_dash) is)

no_begin : (l : Line) (o : Option Label) → ((k : Label) → o ≡ Some k → content l ≡ begin_line k) → starts_with nat_eq l begin_mark ≡ false → [] ≡ begun o
no_begin l None f h = refl
no_begin l (Some k) f h = cc (sym (begins_mark k l (f k refl)) ∙ h)

passing_told : (limit : ℕ) (section : Section) (w : List ℕ) (b : Built) (p : Pending) (l : Line) → passes_by section l ≡ true → Told limit section w b l (record { section = section; pending = p }) []
passing_told limit Outside w b p l h = record {
  made = no_begin l (label_at begin_line (content l)) (λ k e. label_at_some begin_line (content l) k e) (not_true _ h);
  knows = tt;
}
passing_told limit (Headers k) w b p l h = cc h
passing_told limit (Data k) w b p l h = cc h
passing_told limit (AfterChecksum k) w b p l h = cc h

step_told : (rule : LineRule) (s t : State) (w : List ℕ) (b : Built) (l : Line) (more : List Event) → Knows s.section w b.octets s.pending → step rule s l ≡ Ok (t, more) → Told rule.most s.section w b l t more
unfolding step
step_told rule s t w b l more knows h = elim (cases_Bool (passes_by s.section l)) [
  | inl y ↦
      let e = passed rule.outside rule.most s t l more (rw y at h) in
      rw (← e.0, ← e.1) (passing_told rule.most s.section w b s.pending l y)
  | inr n ↦ elim (cases_Bool (nat_lt rule.most (length l))) [
    | inl y ↦ cc (rw (n, y) at h)
    | inr n2 ↦ inside_told rule.most w b s.pending l (ltb-false rule.most (length l) n2) t more s.section (content l) refl knows (rw (n, n2) at h)
  ]
]

-- the run so far has made what the lines make
record Follows (rule : LineRule) (ls : List Line) (r : Run) : Type 0 where
  made : Makes rule.most at_start ls r.events
  section : r.state.section ≡ (fold after_standing at_start ls).section
  knows : Knows r.state.section (fold after_standing at_start ls).letters (built r.events).octets r.state.pending

step_follows : (rule : LineRule) (ls : List Line) (r : Run) (l : Line) (s : State) (more : List Event) → Follows rule ls r → step rule r.state l ≡ Ok (s, more)
    → Follows rule (ls ++ l ∷ []) (record { state = s; events = r.events ++ more })
step_follows rule ls r l s more f h =
    let t : Standing = fold after_standing at_start ls in
    let told = step_told rule r.state s t.letters (built r.events) l more f.knows h in
    let moves = step_moves rule r.state s (built r.events) l more h in
    let now : built (r.events ++ more) ≡ fold absorb (built r.events) more = built_more r.events more in
    let next : fold after_standing at_start (ls ++ l ∷ []) ≡ after_standing t l = fold-both after_standing at_start ls (l ∷ []) in
    record {
      made = makes-append rule.most at_start ls l r.events more f.made (subst (λ (v : Section). LineMakes rule.most v t.letters l more) f.section told.made);
      section = moves.0 ∙ ap (λ (v : Section). after_content v (content l)) f.section ∙ ap (λ (v : Standing). v.section) (sym next);
      knows = subst (λ (v : Built). Knows s.section (fold after_standing at_start (ls ++ l ∷ [])).letters v.octets s.pending) (sym now)
          (subst (λ (v : List ℕ). Knows s.section v (fold absorb (built r.events) more).octets s.pending)
          (ap (λ (v : Section). letters_after v t.letters (content l)) f.section ∙ ap (λ (v : Standing). v.letters) (sym next)) told.knows);
    }

pub run_makes : (rule : LineRule) (ls : List Line) (r : Run) → run rule ls ≡ Ok r → Makes rule.most at_start ls r.events
run_makes rule ls r h =
    (run_keeps rule (Follows rule) (λ front q l s more f k. step_follows rule front q l s more f k) [] ls first r (record { made = refl; section = refl; knows = tt }) h).made

-- the lines so far go on
pub shown_going : (rule : LineRule) (ls : List Line) (r : Run) → 128 ≤ rule.most → AllByRecursion IsLine ls → run rule ls ≡ Ok r → Shown rule ls r.events
shown_going rule ls r large are ran = record {
  front = ls;
  back = [];
  are = sym (append-nil ls);
  opens = extends rule large ls r are ran;
  longest = λ l more e opens. cc e;
  made = run_makes rule ls r ran;
}

-- a line has stopped the machine
pub shown_stopped : (rule : LineRule) (ls before : List Line) (line : Line) (after : List Line) (r : Run) (e : Reason) → 128 ≤ rule.most → AllByRecursion IsLine before → ls ≡ before ++ line ∷ after
    → run rule before ≡ Ok r → step rule r.state line ≡ Err e → Shown rule ls r.events
shown_stopped rule ls before line after r e large are is ran stops = record {
  front = before;
  back = line ∷ after;
  are = is;
  opens = extends rule large before r are ran;
  longest = λ l more same opens. let one : l ≡ line = cc in stopped rule before line r e ran stops (subst (λ (v : Line). Opens rule (before ++ v ∷ [])) one opens);
  made = run_makes rule before r ran;
}

-- ---- one list of events
base64_one : (a b : List ℕ) → AreOctets a → AreOctets b → base64_of a ≡ base64_of b → a ≡ b
base64_one a b ha hb e =
    let same : ◌≡◌ {A = Option (List ℕ)} (Some a) (Some b) = sym (decoded_some a ha) ∙ ap (decoded_of standard) e ∙ decoded_some b hb in
    cc

is_base64_one : (letters a b : List ℕ) → IsBase64 letters a → IsBase64 letters b → a ≡ b
is_base64_one letters a b x y = base64_one a b (all_octets a x.0) (all_octets b y.0) (sym x.1 ∙ y.1)

groups_one : (letters c : List ℕ) (a b : List Event) → EndsGroups letters c a → EndsGroups letters c b → a ≡ b
groups_one letters c a b x y =
    let before : x.before ≡ y.before = is_base64_one (groups_of letters) x.before y.before x.were y.were in
    let all : x.before ++ x.more ≡ y.before ++ y.more = is_base64_one (groups_of (letters ++ c)) (x.before ++ x.more) (y.before ++ y.more) x.are y.are in
    let more : x.more ≡ y.more = append_cancel_left x.before x.more y.more (all ∙ ap (λ (v : List ℕ). v ++ y.more) (sym before)) in
    x.made ∙ ap some_octets more ∙ sym y.made

header_one : (limit : ℕ) (l : Line) (x y : List ℕ × List ℕ) → IsHeader limit l x → IsHeader limit l y → (x.0 ≡ y.0) × (x.1 ≡ y.1)
header_one limit l x y a b = some_pair x.0 y.0 x.1 y.1 (sym (header_found limit l x a) ∙ header_found limit l y b)

header_none : (limit : ℕ) (l : Line) (x : List ℕ × List ℕ) → content l ≡ [] → IsHeader limit l x → ⊥
header_none limit l x none is = cc (sym (ap header_of none ∙ header_of-nil) ∙ header_found limit l x is)

both_begin : (c : List ℕ) → begins_with is_equals c ≡ true → begins_with is_dash c ≡ true → ⊥
both_begin [] h k = cc h
both_begin (x ∷ c) h k = cc (sym (ap is_dash (eqb-true x 61 h)) ∙ k)

line_one : (limit : ℕ) (section : Section) (letters : List ℕ) (l : Line) (a b : List Event) → LineMakes limit section letters l a → LineMakes limit section letters l b → a ≡ b
line_one limit Outside letters l a b x y = x ∙ sym y
line_one limit (Headers k) letters l a b (inl x) (inl y) = x.1 ∙ sym y.1
line_one limit (Headers k) letters l a b (inl x) (inr y) = absurd (header_none limit l y.0 x.0 y.1)
line_one limit (Headers k) letters l a b (inr x) (inl y) = absurd (header_none limit l x.0 y.0 x.1)
line_one limit (Headers k) letters l a b (inr x) (inr y) =
    let e = header_one limit l x.0 y.0 x.1 y.1 in
    x.2 ∙ ap (λ (v : List ℕ). Header v x.0.1 ∷ []) e.0 ∙ ap (λ (v : List ℕ). Header y.0.0 v ∷ []) e.1 ∙ sym y.2
line_one limit (Data k) letters l a b (inl x) (inl y) = x.1 ∙ sym y.1
line_one limit (Data k) letters l a b (inl x) (inr (inl y)) = absurd (both_begin (content l) x.0 y.0)
line_one limit (Data k) letters l a b (inl x) (inr (inr y)) = cc (sym x.0 ∙ y.0)
line_one limit (Data k) letters l a b (inr (inl x)) (inl y) = absurd (both_begin (content l) y.0 x.0)
line_one limit (Data k) letters l a b (inr (inl x)) (inr (inl y)) = x.1 ∙ sym y.1
line_one limit (Data k) letters l a b (inr (inl x)) (inr (inr y)) = cc (sym x.0 ∙ y.1)
line_one limit (Data k) letters l a b (inr (inr x)) (inl y) = cc (sym y.0 ∙ x.0)
line_one limit (Data k) letters l a b (inr (inr x)) (inr (inl y)) = cc (sym y.0 ∙ x.1)
line_one limit (Data k) letters l a b (inr (inr x)) (inr (inr y)) = groups_one letters (content l) a b x.2 y.2
line_one limit (AfterChecksum k) letters l a b x y = x ∙ sym y

makes_one : (limit : ℕ) (s : Standing) (ls : List Line) (a b : List Event) → Makes limit s ls a → Makes limit s ls b → a ≡ b
makes_one limit s [] a b x y = x ∙ sym y
makes_one limit s (l ∷ ls) a b x y =
    x.2
    ∙ ap (λ (v : List Event). v ++ x.1) (line_one limit s.section s.letters l x.0 y.0 x.3 y.3)
    ∙ ap (λ (v : List Event). y.0 ++ v) (makes_one limit (after_standing s l) ls x.1 y.1 x.4 y.4)
    ∙ sym y.2

-- the longest list of first lines is one
front_opens : (rule : LineRule) (a b : List Line) → Opens rule (a ++ b) → Opens rule a
front_opens rule a b o = record { text = o.text; blocks = o.blocks; more = b ++ o.more; octets = o.octets; armored = o.armored; begins = o.begins ∙ append_assoc a b o.more }

-- one of two fronts of a list goes on as the other
record Behind (a b c d : List Line) : Type 0 where
  more : List Line
  longer : b ≡ a ++ more
  rest : c ≡ more ++ d

behind : (a b c d : List Line) → a ++ c ≡ b ++ d → Behind a b c d ⊎ Behind b a d c
behind [] b c d e = inl (record { more = b; longer = refl; rest = e })
behind (x ∷ a) [] c d e = inr (record { more = x ∷ a; longer = refl; rest = sym e })
behind (x ∷ a) (y ∷ b) c d e =
    let e0 : x ≡ y = cc in
    let e1 : a ++ c ≡ b ++ d = cc in
    elim (behind a b c d e1) [
      | inl h ↦ inl (record { more = h.more; longer = ap (λ (v : List Line). y ∷ v) h.longer ∙ ap (λ (v : Line). v ∷ (a ++ h.more)) (sym e0); rest = h.rest })
      | inr h ↦ inr (record { more = h.more; longer = ap (λ (v : List Line). x ∷ v) h.longer ∙ ap (λ (v : Line). v ∷ (b ++ h.more)) e0; rest = h.rest })
    ]

no_behind : (rule : LineRule) (a b c d more : List Line) → b ≡ a ++ more → c ≡ more ++ d → Opens rule b → ((l : Line) (rest : List Line) → c ≡ l ∷ rest → Opens rule (a ++ l ∷ []) → ⊥) → a ≡ b
no_behind rule a b c d [] longer rest opens longest = sym (longer ∙ append-nil a)
no_behind rule a b c d (l ∷ more) longer rest opens longest =
    let is : b ≡ (a ++ l ∷ []) ++ more = longer ∙ sym (append_assoc a (l ∷ []) more) in
    absurd (longest l (more ++ d) rest (front_opens rule (a ++ l ∷ []) more (subst (Opens rule) is opens)))

front_one : (rule : LineRule) (ls : List Line) (a b : List Event) (x : Shown rule ls a) (y : Shown rule ls b) → x.front ≡ y.front
front_one rule ls a b x y = elim (behind x.front y.front x.back y.back (sym x.are ∙ y.are)) [
  | inl h ↦ no_behind rule x.front y.front x.back y.back h.more h.longer h.rest y.opens x.longest
  | inr h ↦ sym (no_behind rule y.front x.front y.back x.back h.more h.longer h.rest x.opens y.longest)
]

pub one_list_of_events : (rule : LineRule) (ls : List Line) (a b : List Event) → Shown rule ls a → Shown rule ls b → a ≡ b
one_list_of_events rule ls a b x y =
    makes_one rule.most at_start y.front a b (subst (λ (v : List Line). Makes rule.most at_start v a) (front_one rule ls a b x y) x.made) y.made

-- What the machine accepts is armored, block for block.
use Rattle.std.proofs.Common.{◌≡◌, ℕ, ◌+◌, ◌≤◌, Bool, true, false, cond, not, nat_lt, nat_eq, List, [], ◌∷◌, ◌++◌, length, take, refl, sym, ap, ◌∙◌, arith, inl, inr, ◌⊎◌, Option, None, Some, Ok, Err}
use Rattle.std.proofs.lemmas.List.{append_assoc, append-nil, nil_from_length, take_all}
use Rattle.std.proofs.lemmas.List.Concat.{flat_map-append}
use Rattle.std.proofs.lemmas.Bool.{cases_Bool, ltb-false}
use Rattle.std.specs.List.{fold, flat_map, starts_with}
use Rattle.std.specs.Str.{bytes_eq}
use Rattle.std.specs.declared.result.Result.{Result}
use Rattle.opgp_armor.specs.Rules.{LineRule}
use Rattle.opgp_armor.specs.declared.label.Label.{Label}
use Rattle.opgp_armor.specs.declared.section.Section.{Section}
use Rattle.opgp_armor.specs.declared.section.Section.TheVariants.{Outside, Headers, Data, AfterChecksum}
use Rattle.opgp_octets.specs.declared.fault.Reason.{Reason}
use Rattle.opgp_octets.specs.declared.fault.Reason.TheVariants as reason
use Rattle.opgp_octets.specs.declared.outside.Outside.{Outside as Policy}
use Rattle.opgp_octets.specs.declared.outside.Outside.TheVariants as policy
use Rattle.opgp_armor.specs.Letters.{is_equals, base64_of, Pending, no_letters, data_line}
use Rattle.opgp_armor.proofs.Octets.{each_octet}
use Rattle.opgp_armor.proofs.Awaiting.{Holds}
use Rattle.opgp_armor.specs.Text.{Line, content, begin_mark, begin_line, end_line}
use Rattle.opgp_armor.specs.Armored.{label_at, Block, ArePieces, Other, Whole, IsBlock, IsHead, IsBody, IsChecked, IsBlank, IsDataLine, IsHeader, AreHeaders, IsAllowed, begins_with, is_dash, passes_by}
use Rattle.opgp_armor.specs.Events.{Event, Begin, Header, End, Built, absorb, built, nothing_built}
use Rattle.opgp_armor.specs.Machine.{State, Run, Answer, header_of, on_begin, on_header, on_letters, some_octets, waits, closing, inside, on_blank, on_outside, step, start, onward, next, run_from, first, run}
use Rattle.opgp_armor.proofs.Lists.{fold-both, recursion-append, same_text, label_at_some, piece_more}
use Rattle.opgp_armor.proofs.HeaderLines.{Header as HeaderParts, header_is}
use Rattle.opgp_armor.proofs.DataLine.{data_line_holds, not_false}
use Rattle.opgp_armor.proofs.Standard.{base64_of-nil}

pub ok_pair : {X Y E : Type 0} (a c : X) (b d : Y) → ◌≡◌ {A = Result (X × Y) E} (Ok (a, b)) (Ok (c, d)) → (a ≡ c) × (b ≡ d)
ok_pair {X} {Y} a c b d h =
    let e : ◌≡◌ {A = X × Y} (a, b) (c, d) = cc in
    (ap (λ (p : X × Y). p.0) e, ap (λ (p : X × Y). p.1) e)

-- the open lines are what the section says, and gave what is built
abbrev pub Stage : ℕ → Section → Pending → Built → List Line → Type 0
Stage limit Outside p b ls = (ls ≡ []) × (p ≡ no_letters)
Stage limit (Headers l) p b ls = (b.label ≡ l) × IsHead limit l b.headers ls × (b.octets ≡ []) × (p ≡ no_letters)
Stage limit (Data l) p b ls = (letters : List ℕ) × (b.label ≡ l) × IsBody limit l b.headers letters ls × Holds letters b.octets p
Stage limit (AfterChecksum l) p b ls = (letters : List ℕ) × (b.label ≡ l) × IsChecked limit l b.headers letters ls × Holds letters b.octets p × (waits p ≡ false)

-- one line more: it goes on, or a block ends
abbrev pub Grows : ℕ → Built → List Line → State → List Event → Type 0
Grows limit b ls s more =
    (((fold absorb b more).blocks ≡ b.blocks) × Stage limit s.section s.pending (fold absorb b more) ls)
    ⊎ ((block : Block) × IsBlock limit block ls × ((fold absorb b more).blocks ≡ b.blocks ++ block ∷ []) × (s ≡ start))

headers-append : (limit : ℕ) (ls : List Line) (hs : List (List ℕ × List ℕ)) (l : Line) (h : List ℕ × List ℕ) → AreHeaders limit ls hs → IsHeader limit l h → AreHeaders limit (ls ++ l ∷ []) (hs ++ h ∷ [])
headers-append limit [] [] l h are is = (is, tt)
headers-append limit (x ∷ ls) (y ∷ hs) l h are is = (are.0, headers-append limit ls hs l h are.1 is)
headers-append limit [] (y ∷ hs) l h are is = absurd are
headers-append limit (x ∷ ls) [] l h are is = absurd are

pub letters_nil : Holds [] [] no_letters
letters_nil = record { joined = sym (ap (λ (v : List ℕ). v ++ []) base64_of-nil); are_octets = tt; few = omega arith; are_letters = refl; end = λ e. refl; padding = refl }

-- a line of the same list, after those before it
line_more : (l : Line) (head : List Line) (gap : Line) (rest ls : List Line) → ls ≡ head ++ gap ∷ rest → ls ++ l ∷ [] ≡ head ++ gap ∷ (rest ++ l ∷ [])
line_more l head gap rest ls e = rw e (append_assoc head (gap ∷ rest) (l ∷ []))

module _ (limit : ℕ) (b : Built) (ls : List Line) (l : Line) (s : State) (more : List Event) (within : length l ≤ limit) where
  begin_grows : (o : Option Label) → ((k : Label) → o ≡ Some k → content l ≡ begin_line k) → ls ≡ [] → on_begin o ≡ Ok (s, more) → Grows limit b (ls ++ l ∷ []) s more
  begin_grows None spelled empty h = cc h
  begin_grows (Some k) spelled empty h =
      let p = ok_pair {E = Reason} (record { section = Headers k; pending = no_letters }) s (Begin k ∷ []) more h in
      rw (← p.0, ← p.1) (inl (refl, (refl, record { first = l; rest = []; are = ap (λ (v : List Line). v ++ l ∷ []) empty; begins = spelled k refl; within = within; headers_are = tt }, refl, refl)))

  header_grows : (k : Label) (p : Pending) (o : Option (List ℕ × List ℕ)) → ((key value : List ℕ) → o ≡ Some (key, value) → HeaderParts (content l) key value) → Stage limit (Headers k) p b ls
      → on_header k p o ≡ Ok (s, more) → Grows limit b (ls ++ l ∷ []) s more
  header_grows k p None parts stage h = cc h
  header_grows k p (Some (key, value)) parts stage h =
      let e = ok_pair {E = Reason} (record { section = Headers k; pending = p }) s (Header key value ∷ []) more h in
      let is = parts key value refl in
      let head = stage.1 in
      rw (← e.0, ← e.1) (inl (
        refl,
        (
          stage.0,
          record {
            first = head.first;
            rest = head.rest ++ l ∷ [];
            are = ap (λ (v : List Line). v ++ l ∷ []) head.are;
            begins = head.begins;
            within = head.within;
            headers_are = headers-append limit head.rest b.headers l (key, value) head.headers_are (record { named = is.named_; plain = is.plain; spelled = is.spelled; within = within });
          },
          stage.2,
          stage.3,
        ),
      ))

  gap_grows : (k : Label) (p : Pending) → content l ≡ [] → Stage limit (Headers k) p b ls
      → ◌≡◌ {A = Answer} (Ok (record { section = Data k; pending = p }, [])) (Ok (s, more)) → Grows limit b (ls ++ l ∷ []) s more
  gap_grows k p blank stage h =
      let e = ok_pair {E = Reason} (record { section = Data k; pending = p }) s [] more h in
      rw (← e.0, ← e.1) (inl (
        refl,
        (
          [],
          stage.0,
          record {
            head = ls;
            gap = l;
            data_lines = [];
            are = refl;
            is_head = stage.1;
            is_gap = record { blank = blank; within = within };
            are_data_lines = tt;
            joined = refl;
          },
          rw (stage.2, stage.3) letters_nil,
        ),
      ))

  data_body : (k : Label) (letters : List ℕ) → IsBody limit k b.headers letters ls → begins_with is_equals (content l) ≡ false → begins_with is_dash (content l) ≡ false
      → IsBody limit k b.headers (letters ++ content l) (ls ++ l ∷ [])
  data_body k letters body no_checksum no_end = record {
    head = body.head;
    gap = body.gap;
    data_lines = body.data_lines ++ l ∷ [];
    are = line_more l body.head body.gap body.data_lines ls body.are;
    is_head = body.is_head;
    is_gap = body.is_gap;
    are_data_lines = recursion-append (IsDataLine limit) body.data_lines (l ∷ []) body.are_data_lines (record { no_checksum = no_checksum; no_end = no_end; within = within }, tt);
    joined = rw body.joined (sym (flat_map-append content body.data_lines (l ∷ []) ∙ ap (λ (v : List ℕ). flat_map content body.data_lines ++ v) (append-nil (content l))));
  }

  octets_built : (o : List ℕ) → ((fold absorb b (some_octets o)).octets ≡ b.octets ++ o) × ((fold absorb b (some_octets o)).headers ≡ b.headers)
      × ((fold absorb b (some_octets o)).label ≡ b.label) × ((fold absorb b (some_octets o)).blocks ≡ b.blocks)
  octets_built [] = (sym (append-nil b.octets), refl, refl, refl)
  octets_built (x ∷ o) = (refl, refl, refl, refl)

  letters_grow : (k : Label) (p : Pending) (r : Result (Pending × List ℕ) Reason) → r ≡ data_line p (content l) → begins_with is_equals (content l) ≡ false → begins_with is_dash (content l) ≡ false
      → Stage limit (Data k) p b ls → on_letters k r ≡ Ok (s, more) → Grows limit b (ls ++ l ∷ []) s more
  letters_grow k p (Err e) is n1 n2 stage h = cc h
  letters_grow k p (Ok (q, o)) is n1 n2 stage h =
      let e = ok_pair {E = Reason} (record { section = Data k; pending = q }) s (some_octets o) more h in
      let g = octets_built o in
      rw (← e.0, ← e.1) (inl (
        g.3,
        (
          stage.0 ++ content l,
          g.2 ∙ stage.1,
          rw g.1 (data_body k stage.0 stage.2 n1 n2),
          rw g.0 (data_line_holds p (content l) stage.0 b.octets (q, o) stage.3 (sym is)),
        ),
      ))

  blank_grows : (k : Label) (p : Pending) → content l ≡ [] → Stage limit (Data k) p b ls
      → ◌≡◌ {A = Answer} (Ok (record { section = Data k; pending = p }, [])) (Ok (s, more)) → Grows limit b (ls ++ l ∷ []) s more
  blank_grows k p blank stage h =
      let e = ok_pair {E = Reason} (record { section = Data k; pending = p }) s [] more h in
      let same : stage.0 ++ content l ≡ stage.0 = rw blank (append-nil stage.0) in
      rw (← e.0, ← e.1) (inl (refl, (stage.0 ++ content l, stage.1, data_body k stage.0 stage.2 (rw blank refl) (rw blank refl), rw same stage.3)))

  checksum_grows : (k : Label) (p : Pending) → begins_with is_equals (content l) ≡ true → waits p ≡ false → Stage limit (Data k) p b ls
      → ◌≡◌ {A = Answer} (Ok (record { section = AfterChecksum k; pending = p }, [])) (Ok (s, more)) → Grows limit b (ls ++ l ∷ []) s more
  checksum_grows k p equals none stage h =
      let e = ok_pair {E = Reason} (record { section = AfterChecksum k; pending = p }) s [] more h in
      rw (← e.0, ← e.1) (inl (
        refl,
        (
          stage.0,
          stage.1,
          record {
            body = ls;
            checksum = l;
            blanks = [];
            are = refl;
            is_body = stage.2;
            is_checksum = equals;
            within = within;
            are_blanks = tt;
          },
          stage.3,
          none,
        ),
      ))

  rest_grows : (k : Label) (p : Pending) → content l ≡ [] → Stage limit (AfterChecksum k) p b ls
      → ◌≡◌ {A = Answer} (Ok (record { section = AfterChecksum k; pending = p }, [])) (Ok (s, more)) → Grows limit b (ls ++ l ∷ []) s more
  rest_grows k p blank stage h =
      let e = ok_pair {E = Reason} (record { section = AfterChecksum k; pending = p }) s [] more h in
      let is = stage.2 in
      rw (← e.0, ← e.1) (inl (
        refl,
        (
          stage.0,
          stage.1,
          record {
            body = is.body;
            checksum = is.checksum;
            blanks = is.blanks ++ l ∷ [];
            are = line_more l is.body is.checksum is.blanks ls is.are;
            is_body = is.is_body;
            is_checksum = is.is_checksum;
            within = is.within;
            are_blanks = recursion-append (IsBlank limit) is.blanks (l ∷ []) is.are_blanks (record { blank = blank; within = within }, tt);
          },
          stage.3,
          stage.4,
        ),
      ))

  closing_grows : (k : Label) (p : Pending) (letters : List ℕ) → b.label ≡ k → (IsBody limit k b.headers letters ls ⊎ IsChecked limit k b.headers letters ls) → Holds letters b.octets p
      → closing k p (content l) ≡ Ok (s, more) → Grows limit b (ls ++ l ∷ []) s more
  unfolding closing
  closing_grows k p letters label front held h = elim (cases_Bool (not (bytes_eq (content l) (end_line k)))) [
    | inl y ↦ cc (rw y at h)
    | inr n ↦ elim (cases_Bool (waits p)) [
      | inl y2 ↦ cc (rw (n, y2) at h)
      | inr n2 ↦
          let e = ok_pair {E = Reason} start s (End ∷ []) more (rw (n, n2) at h) in
          let none : p.letters ≡ [] = nil_from_length p.letters (let z : length p.letters ≤ 0 = ltb-false 0 (length p.letters) n2 in omega arith) in
          let joined : letters ≡ base64_of b.octets = held.joined ∙ ap (λ (v : List ℕ). base64_of b.octets ++ v) none ∙ append-nil (base64_of b.octets) in
          rw (← e.0, ← e.1) (inr (
            record { label = b.label; headers = b.headers; octets = b.octets },
            record { front = ls; last = l; letters = letters; are = refl; is_front = rw label front; spelled = (each_octet b.octets held.are_octets, joined); ends = rw label (same_text (content l) (end_line k) (not_false _ n)); within = within },
            refl,
            refl,
          ))
    ]
  ]

  inside_grows : (section : Section) (p : Pending) (c : List ℕ) → c ≡ content l → Stage limit section p b ls → inside section p c ≡ Ok (s, more) → Grows limit b (ls ++ l ∷ []) s more
  inside_grows Outside p c is stage h = begin_grows (label_at begin_line c) (λ k o. sym is ∙ label_at_some begin_line c k o) stage.0 h
  inside_grows (Headers k) p [] is stage h = gap_grows k p (sym is) stage h
  inside_grows (Headers k) p (x ∷ c) is stage h = header_grows k p (header_of (x ∷ c)) (λ key value o. rw (← is) (header_is (x ∷ c) key value o)) stage h
  inside_grows (Data k) p [] is stage h = blank_grows k p (sym is) stage h
  inside_grows (Data k) p (x ∷ c) is stage h = elim (cases_Bool (is_equals x)) [
    | inl y ↦ elim (cases_Bool (waits p)) [
      | inl y2 ↦ cc (rw (y, y2) at h)
      | inr n2 ↦ checksum_grows k p (rw (← is) y) n2 stage (rw (y, n2) at h)
    ]
    | inr n ↦ elim (cases_Bool (is_dash x)) [
      | inl y ↦ closing_grows k p stage.0 stage.1 (inl stage.2) stage.3 (rw (← is) (rw (n, y) at h))
      | inr n2 ↦ letters_grow k p (data_line p (x ∷ c)) (ap (data_line p) is) (rw (← is) n) (rw (← is) n2) stage (rw (n, n2) at h)
    ]
  ]
  inside_grows (AfterChecksum k) p [] is stage h = rest_grows k p (sym is) stage h
  inside_grows (AfterChecksum k) p (x ∷ c) is stage h = elim (cases_Bool (is_dash x)) [
    | inl y ↦ closing_grows k p stage.0 stage.1 (inr stage.2) stage.3 (rw (← is) (rw y at h))
    | inr n ↦ cc (rw n at h)
  ]

-- the lines so far: finished pieces, and the open ones
pub record Upto (rule : LineRule) (ls : List Line) (r : Run) : Type 0 where
  pub done : List Line
  pub open_ : List Line
  pub are : ls ≡ done ++ open_
  pub pieces : ArePieces rule done (built r.events).blocks
  pub stage : Stage rule.most r.state.section r.state.pending (built r.events) open_

pub upto_first : (rule : LineRule) → Upto rule [] first
unfolding built
upto_first rule = record { done = []; open_ = []; are = refl; pieces = record { pieces = []; each = tt; are = refl; blocks_are = refl }; stage = (refl, refl) }

pub built_more : (events more : List Event) → built (events ++ more) ≡ fold absorb (built events) more
unfolding built
built_more events more = fold-both absorb nothing_built events more

pub not_true : (a : Bool) → not a ≡ true → a ≡ false
not_true true h = cc h
not_true false h = refl

passing : (limit : ℕ) (section : Section) (p : Pending) (b : Built) (l : Line) (ls : List Line) → passes_by section l ≡ true → Stage limit section p b ls
    → (ls ≡ []) × (starts_with nat_eq l begin_mark ≡ false)
passing limit Outside p b l ls h stage = (stage.0, not_true _ h)
passing limit (Headers k) p b l ls h stage = cc h
passing limit (Data k) p b l ls h stage = cc h
passing limit (AfterChecksum k) p b l ls h stage = cc h

-- a line outside that goes on changes nothing, and is allowed there
pub passed : (o : Policy) (limit : ℕ) (s t : State) (l : Line) (more : List Event) → on_outside o limit s l ≡ Ok (t, more) → (s ≡ t) × ([] ≡ more) × IsAllowed o limit l
passed policy.Skip limit s t l more h = let e = ok_pair {E = Reason} s t [] more h in (e.0, e.1, tt)
passed policy.Refuse limit s t l more h = by_content (content (take (limit + 1) l)) refl h
  where
    by_content : (c : List ℕ) → content (take (limit + 1) l) ≡ c → on_blank c (cond (nat_lt limit (length l)) (Err reason.LineTooLong) (Ok (s, []))) ≡ Ok (t, more) → (s ≡ t) × ([] ≡ more) × IsBlank limit l
    by_content (x ∷ c) is k = cc k
    by_content [] is k = elim (cases_Bool (nat_lt limit (length l))) [
      | inl y ↦ cc (rw y at k)
      | inr n ↦
          let e = ok_pair {E = Reason} s t [] more (rw n at k) in
          let within : length l ≤ limit = ltb-false limit (length l) n in
          (e.0, e.1, record { blank = sym (ap content (take_all (limit + 1) l (omega arith))) ∙ is; within = within })
    ]

-- the same pieces, under other names
pub relist : (rule : LineRule) (a a' : List Line) (bs bs' : List Block) → a ≡ a' → bs ≡ bs' → ArePieces rule a bs → ArePieces rule a' bs'
relist rule a a' bs bs' e f are = rw (← e, ← f) are

pub step_upto : (rule : LineRule) (ls : List Line) (r : Run) (l : Line) (s : State) (more : List Event) → Upto rule ls r → step rule r.state l ≡ Ok (s, more)
    → Upto rule (ls ++ l ∷ []) (record { state = s; events = r.events ++ more })
unfolding step
step_upto rule ls r l s more upto h = elim (cases_Bool (passes_by r.state.section l)) [
  | inl y ↦
      let e = passed rule.outside rule.most r.state s l more (rw y at h) in
      let out = passing rule.most r.state.section r.state.pending (built r.events) l upto.open_ y upto.stage in
      let same : built r.events ≡ built (r.events ++ more) = rw (← e.1, append-nil r.events) refl in
      let whole : upto.done ≡ ls = sym (upto.are ∙ ap (λ (v : List Line). upto.done ++ v) out.0 ∙ append-nil upto.done) in
      record {
        done = ls ++ l ∷ [];
        open_ = [];
        are = sym (append-nil (ls ++ l ∷ []));
        pieces = relist rule (upto.done ++ l ∷ []) (ls ++ l ∷ []) ((built r.events).blocks ++ []) (built (r.events ++ more)).blocks
            (ap (λ (v : List Line). v ++ l ∷ []) whole) (append-nil (built r.events).blocks ∙ ap (λ (v : Built). v.blocks) same)
            (piece_more rule upto.done (l ∷ []) (built r.events).blocks [] (Other l) upto.pieces (out.1, e.2) refl refl);
        stage = rw (← e.0, ← same, ← out.0) upto.stage;
      }
  | inr n ↦ elim (cases_Bool (nat_lt rule.most (length l))) [
    | inl y ↦ cc (rw (n, y) at h)
    | inr n2 ↦
        let within : length l ≤ rule.most = ltb-false rule.most (length l) n2 in
        let grown = inside_grows rule.most (built r.events) upto.open_ l s more within r.state.section r.state.pending (content l) refl upto.stage (rw (n, n2) at h) in
        let now : fold absorb (built r.events) more ≡ built (r.events ++ more) = sym (built_more r.events more) in
        let same : (upto.done ++ upto.open_) ++ l ∷ [] ≡ upto.done ++ (upto.open_ ++ l ∷ []) = append_assoc upto.done upto.open_ (l ∷ []) in
        elim grown [
          | inl g ↦ record {
            done = upto.done;
            open_ = upto.open_ ++ l ∷ [];
            are = ap (λ (v : List Line). v ++ l ∷ []) upto.are ∙ same;
            pieces = relist rule upto.done upto.done (built r.events).blocks (built (r.events ++ more)).blocks refl (sym g.0 ∙ ap (λ (v : Built). v.blocks) now) upto.pieces;
            stage = rw (← now) g.1;
          }
          | inr g ↦ record {
            done = ls ++ l ∷ [];
            open_ = [];
            are = sym (append-nil (ls ++ l ∷ []));
            pieces = relist rule (upto.done ++ (upto.open_ ++ l ∷ [])) (ls ++ l ∷ []) ((built r.events).blocks ++ g.0 ∷ []) (built (r.events ++ more)).blocks
                (sym (ap (λ (v : List Line). v ++ l ∷ []) upto.are ∙ same)) (sym g.2 ∙ ap (λ (v : Built). v.blocks) now)
                (piece_more rule upto.done (upto.open_ ++ l ∷ []) (built r.events).blocks (g.0 ∷ []) (Whole (upto.open_ ++ l ∷ []) g.0) upto.pieces g.1 refl refl);
            stage = rw g.3 (refl, refl);
          }
        ]
  ]
]

-- ---- runs
pub run-more : (rule : LineRule) (r : Result Run Reason) (a b : List Line) → run_from rule r (a ++ b) ≡ run_from rule (run_from rule r a) b
unfolding run_from
run-more rule r a b = fold-both (next rule) r a b

pub run_err : (rule : LineRule) (e : Reason) (ls : List Line) → run_from rule (Err e) ls ≡ Err e
unfolding run_from
run_err rule e [] = refl
run_err rule e (l ∷ ls) = run_err rule e ls

pub run-cons : (rule : LineRule) (r : Result Run Reason) (l : Line) (ls : List Line) → run_from rule r (l ∷ ls) ≡ run_from rule (next rule r l) ls
unfolding run_from
run-cons rule r l ls = refl

pub run-nil : (rule : LineRule) (r : Result Run Reason) → run_from rule r [] ≡ r
unfolding run_from
run-nil rule r = refl

onward_ok : (events : List Event) (a : Answer) (r : Run) → onward events a ≡ Ok r → (s : State) × (more : List Event) × (a ≡ Ok (s, more)) × (r ≡ record { state = s; events = events ++ more })
onward_ok events (Err e) r h = cc h
onward_ok events (Ok (s, more)) r h = (s, more, refl, cc h)

run_one : (rule : LineRule) (front : List Line) (l : Line) (ls : List Line) (r q : Run) → Upto rule front r
    → ((m : Run) → Upto rule (front ++ l ∷ []) m → run_from rule (Ok m) ls ≡ Ok q → Upto rule ((front ++ l ∷ []) ++ ls) q)
    → (n : Result Run Reason) → onward r.events (step rule r.state l) ≡ n → run_from rule n ls ≡ Ok q → Upto rule (front ++ l ∷ ls) q
run_one rule front l ls r q upto again (Err e) is k = cc (sym (run_err rule e ls) ∙ k)
run_one rule front l ls r q upto again (Ok m) is k =
    let o = onward_ok r.events (step rule r.state l) m is in
    let one = step_upto rule front r l o.0 o.1 upto o.2 in
    rw append_assoc at (again m (rw o.3 one) k)

pub run_upto : (rule : LineRule) (front ls : List Line) (r q : Run) → Upto rule front r → run_from rule (Ok r) ls ≡ Ok q → Upto rule (front ++ ls) q
run_upto rule front [] r q upto h =
    let e : r ≡ q = cc (sym (run-nil rule (Ok r)) ∙ h) in
    rw (append-nil front, ← e) upto
run_upto rule front (l ∷ ls) r q upto h =
    run_one rule front l ls r q upto (λ m one k. run_upto rule (front ++ l ∷ []) ls m q one k) (onward r.events (step rule r.state l)) refl (sym (run-cons rule (Ok r) l ls) ∙ h)

-- What the machine accepts is armored.
pub sound : (rule : LineRule) (ls : List Line) (q : Run) → run rule ls ≡ Ok q → Upto rule ls q
sound rule ls q h = run_upto rule [] ls first q (upto_first rule) h

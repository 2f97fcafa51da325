-- Each armored text is accepted, with its blocks.
use Rattle.std.proofs.Common.{◌≡◌, ℕ, ◌+◌, ◌≤◌, true, false, not, nat_eq, List, [], ◌∷◌, ◌++◌, length, refl, sym, ap, ◌∙◌, arith, inl, inr, ◌⊎◌, subst, Some, Ok}
use Rattle.std.proofs.lemmas.List.{append_assoc, append-nil, take_all}
use Rattle.std.proofs.lemmas.Bool.{cases_Bool, le-ltb}
use Rattle.std.specs.List.{fold, flat_map, AllByRecursion, starts_with}
use Rattle.std.specs.declared.result.Result.{Result}
use Rattle.opgp_armor.specs.Rules.{LineRule}
use Rattle.opgp_armor.specs.declared.label.Label.{Label}
use Rattle.opgp_armor.specs.declared.label.Label.TheVariants.{Message, PublicKeyBlock, PrivateKeyBlock, Signature}
use Rattle.opgp_armor.specs.declared.section.Section.{Section}
use Rattle.opgp_armor.specs.declared.section.Section.TheVariants.{Outside, Headers, Data, AfterChecksum}
use Rattle.opgp_octets.specs.declared.fault.Reason.{Reason}
use Rattle.opgp_octets.specs.declared.outside.Outside.{Outside as Policy}
use Rattle.opgp_octets.specs.declared.outside.Outside.TheVariants as policy
use Rattle.opgp_armor.specs.Letters.{is_equals, IsBase64, base64_of, Pending, no_letters, data_line}
use Rattle.opgp_armor.proofs.Octets.{all_octets}
use Rattle.opgp_armor.proofs.Awaiting.{Awaits}
use Rattle.opgp_armor.specs.Text.{Line, content, strip, is_trailing, begin_mark, begin_line, end_line}
use Rattle.opgp_armor.specs.Armored.{label_at, Block, ArePieces, Piece, Other, Whole, IsPiece, IsBlock, IsBody, IsChecked, IsBlank, IsDataLine, IsHeader, AreHeaders, IsAllowed, begins_with, is_dash, lines_of, blocks_of, passes_by}
use Rattle.opgp_armor.specs.Events.{Event, Begin, Header, End, Built, absorb, built, nothing_built}
use Rattle.opgp_armor.specs.Machine.{State, Run, Answer, header_of, on_begin, on_header, on_letters, some_octets, waits, closing, inside, on_outside, step, start, onward, run_from, first, run}
use Rattle.opgp_armor.proofs.Lists.{text_same}
use Rattle.opgp_armor.proofs.HeaderLines.{header_found, header_of-nil}
use Rattle.opgp_armor.proofs.Groups.{begins_with_equals}
use Rattle.opgp_armor.proofs.DataLine.{data_line_goes}
use Rattle.opgp_armor.proofs.Standard.{base64_of-nil, base64_long}
use Rattle.opgp_armor.proofs.Sound.{run-more, run-cons, run-nil, built_more}

-- the run stands here, and has built this
pub record At (r : Run) (s : State) (b : Built) : Type 0 where
  pub state_is : r.state ≡ s
  pub built_is : built r.events ≡ b

pub record Came (rule : LineRule) (r : Run) (ls : List Line) (s : State) (b : Built) : Type 0 where
  pub run_ : Run
  pub ran : run_from rule (Ok r) ls ≡ Ok run_
  pub at : At run_ s b

-- from any run that stands at s and has built b, the lines lead to s' and b'
abbrev pub Reaches : LineRule → State → Built → List Line → State → Built → Type 0
Reaches rule s b ls s' b' = (r : Run) → At r s b → Came rule r ls s' b'

pub reaches-nil : (rule : LineRule) (s : State) (b : Built) → Reaches rule s b [] s b
reaches-nil rule s b r at = record { run_ = r; ran = run-nil rule (Ok r); at = at }

pub reaches-append : (rule : LineRule) (s0 s1 s2 : State) (b0 b1 b2 : Built) (ls ms : List Line) → Reaches rule s0 b0 ls s1 b1 → Reaches rule s1 b1 ms s2 b2 → Reaches rule s0 b0 (ls ++ ms) s2 b2
reaches-append rule s0 s1 s2 b0 b1 b2 ls ms f g r at =
    let one = f r at in
    let two = g one.run_ one.at in
    record { run_ = two.run_; ran = run-more rule (Ok r) ls ms ∙ ap (λ (v : Result Run Reason). run_from rule v ms) one.ran ∙ two.ran; at = two.at }

pub reaches_one : (rule : LineRule) (s s1 : State) (b b1 : Built) (l : Line) (more : List Event) → step rule s l ≡ Ok (s1, more) → fold absorb b more ≡ b1 → Reaches rule s b (l ∷ []) s1 b1
reaches_one rule s s1 b b1 l more h e r at =
    let q : Run = record { state = s1; events = r.events ++ more } in
    let stepped : step rule r.state l ≡ Ok (s1, more) = ap (λ (v : State). step rule v l) at.state_is ∙ h in
    record {
      run_ = q;
      ran = run-cons rule (Ok r) l [] ∙ ap (λ (v : Answer). run_from rule (onward r.events v) []) stepped ∙ run-nil rule (Ok q);
      at = record { state_is = refl; built_is = built_more r.events more ∙ ap (λ (v : Built). fold absorb v more) at.built_is ∙ e };
    }

pub reaches-cons : (rule : LineRule) (s s1 s2 : State) (b b1 b2 : Built) (l : Line) (ls : List Line) (more : List Event) → step rule s l ≡ Ok (s1, more) → fold absorb b more ≡ b1
    → Reaches rule s1 b1 ls s2 b2 → Reaches rule s b (l ∷ ls) s2 b2
reaches-cons rule s s1 s2 b b1 b2 l ls more h e rest = reaches-append rule s s1 s2 b b1 b2 (l ∷ []) ls (reaches_one rule s s1 b b1 l more h e) rest

-- ---- single lines
pub step_inside : (rule : LineRule) (s : State) (l : Line) → passes_by s.section l ≡ false → length l ≤ rule.most → step rule s l ≡ inside s.section s.pending (content l)
unfolding step
step_inside rule s l n within = rw (n, le-ltb rule.most (length l) within) refl

-- a line outside that is allowed there
allowed : (o : Policy) (limit : ℕ) (s : State) (l : Line) → IsAllowed o limit l → on_outside o limit s l ≡ Ok (s, [])
allowed policy.Skip limit s l is = refl
allowed policy.Refuse limit s l is =
    let within = is.within in
    rw (take_all (limit + 1) l (omega arith), is.blank, le-ltb limit (length l) within) refl

pub step_passes : (rule : LineRule) (s : State) (l : Line) → passes_by s.section l ≡ true → IsAllowed rule.outside rule.most l → step rule s l ≡ Ok (s, [])
unfolding step
step_passes rule s l y is = rw y (allowed rule.outside rule.most s l is)

strip_front : (c : ℕ) (s t : List ℕ) → (rest : List ℕ) × (c ∷ (s ++ t) ≡ strip c s ++ rest)
strip_front c [] t = elim (cases_Bool (is_trailing c)) [
  | inl y ↦ (c ∷ t, rw y refl)
  | inr n ↦ (t, rw n refl)
]
strip_front c (d ∷ ds) t = (t, refl)

pub content_front : (l : Line) → (rest : List ℕ) × (l ≡ content l ++ rest)
unfolding content
content_front [] = ([], refl)
content_front (c ∷ l) =
    let more = content_front l in
    let f = strip_front c (content l) more.0 in
    (f.0, ap (λ (v : List ℕ). c ∷ v) more.1 ∙ f.1)

begin_text : (k : Label) (rest : List ℕ) → starts_with nat_eq (begin_line k ++ rest) begin_mark ≡ true
begin_text Message rest = refl
begin_text PublicKeyBlock rest = refl
begin_text PrivateKeyBlock rest = refl
begin_text Signature rest = refl

begin_label : (k : Label) → label_at begin_line (begin_line k) ≡ Some k
begin_label Message = refl
begin_label PublicKeyBlock = refl
begin_label PrivateKeyBlock = refl
begin_label Signature = refl

pub begins_mark : (k : Label) (l : Line) → content l ≡ begin_line k → starts_with nat_eq l begin_mark ≡ true
begins_mark k l e =
    let f = content_front l in
    let whole : l ≡ begin_line k ++ f.0 = f.1 ∙ ap (λ (v : List ℕ). v ++ f.0) e in
    subst (λ (v : List ℕ). starts_with nat_eq v begin_mark ≡ true) (sym whole) (begin_text k f.0)

pub begin_step : (rule : LineRule) (p : Pending) (k : Label) (l : Line) → content l ≡ begin_line k → length l ≤ rule.most
    → step rule (record { section = Outside; pending = p }) l ≡ Ok (record { section = Headers k; pending = no_letters }, Begin k ∷ [])
begin_step rule p k l e within =
    step_inside rule (record { section = Outside; pending = p }) l (ap not (begins_mark k l e)) within
    ∙ ap (λ (v : List ℕ). on_begin (label_at begin_line v)) e ∙ ap on_begin (begin_label k)

header_step : (rule : LineRule) (p : Pending) (k : Label) (l : Line) (h : List ℕ × List ℕ) → IsHeader rule.most l h
    → step rule (record { section = Headers k; pending = p }) l ≡ Ok (record { section = Headers k; pending = p }, Header h.0 h.1 ∷ [])
header_step rule p k l h is =
    step_inside rule (record { section = Headers k; pending = p }) l refl is.within
    ∙ by_header (content l) (header_found rule.most l h is)
  where
    by_header : (c : List ℕ) → header_of c ≡ Some (h.0, h.1) → inside (Headers k) p c ≡ Ok (record { section = Headers k; pending = p }, Header h.0 h.1 ∷ [])
    by_header [] e = cc (sym header_of-nil ∙ e)
    by_header (x ∷ c) e = ap (on_header k p) e

pub gap_step : (rule : LineRule) (p : Pending) (k : Label) (l : Line) → IsBlank rule.most l
    → step rule (record { section = Headers k; pending = p }) l ≡ Ok (record { section = Data k; pending = p }, [])
gap_step rule p k l is = step_inside rule (record { section = Headers k; pending = p }) l refl is.within ∙ ap (inside (Headers k) p) is.blank

rest_step : (rule : LineRule) (p : Pending) (k : Label) (l : Line) → IsBlank rule.most l
    → step rule (record { section = AfterChecksum k; pending = p }) l ≡ Ok (record { section = AfterChecksum k; pending = p }, [])
rest_step rule p k l is = step_inside rule (record { section = AfterChecksum k; pending = p }) l refl is.within ∙ ap (inside (AfterChecksum k) p) is.blank

checksum_step : (rule : LineRule) (p : Pending) (k : Label) (l : Line) → begins_with is_equals (content l) ≡ true → length l ≤ rule.most → waits p ≡ false
    → step rule (record { section = Data k; pending = p }) l ≡ Ok (record { section = AfterChecksum k; pending = p }, [])
checksum_step rule p k l e within none =
    step_inside rule (record { section = Data k; pending = p }) l refl within ∙ by_content (content l) e
  where
    by_content : (c : List ℕ) → begins_with is_equals c ≡ true → inside (Data k) p c ≡ Ok (record { section = AfterChecksum k; pending = p }, [])
    by_content [] e = cc e
    by_content (x ∷ c) e = rw (e, none) refl

closes : (p : Pending) (k : Label) → waits p ≡ false → closing k p (end_line k) ≡ Ok (start, End ∷ [])
unfolding closing
closes p k none = rw (text_same (end_line k) (end_line k) refl, none) refl

pub end_step : (rule : LineRule) (p : Pending) (k : Label) (l : Line) → content l ≡ end_line k → length l ≤ rule.most → waits p ≡ false
    → (step rule (record { section = Data k; pending = p }) l ≡ Ok (start, End ∷ []))
    × (step rule (record { section = AfterChecksum k; pending = p }) l ≡ Ok (start, End ∷ []))
end_step rule p k l e within none = (
  step_inside rule (record { section = Data k; pending = p }) l refl within ∙ ap (inside (Data k) p) e ∙ closes p k none,
  step_inside rule (record { section = AfterChecksum k; pending = p }) l refl within ∙ ap (inside (AfterChecksum k) p) e ∙ closes p k none,
)

-- ---- the parts of a block
headers_reach : (rule : LineRule) (p : Pending) (k : Label) (b : Built) (ls : List Line) (hs : List (List ℕ × List ℕ)) → AreHeaders rule.most ls hs
    → Reaches rule (record { section = Headers k; pending = p }) b ls (record { section = Headers k; pending = p }) (record b { headers = b.headers ++ hs })
headers_reach rule p k b [] [] are = rw (append-nil b.headers) (reaches-nil rule (record { section = Headers k; pending = p }) b)
headers_reach rule p k b (l ∷ ls) (h ∷ hs) are =
    let s : State = record { section = Headers k; pending = p } in
    let b1 : Built = record b { headers = b.headers ++ h ∷ [] } in
    let rest = headers_reach rule p k b1 ls hs are.1 in
    reaches-cons rule s s s b b1 (record b { headers = b.headers ++ h ∷ hs }) l ls (Header h.0 h.1 ∷ []) (header_step rule p k l h are.0) refl
    (rw append_assoc at rest)
headers_reach rule p k b [] (h ∷ hs) are = absurd are
headers_reach rule p k b (l ∷ ls) [] are = absurd are

blanks_reach : (rule : LineRule) (p : Pending) (k : Label) (b : Built) (ls : List Line) → AllByRecursion (IsBlank rule.most) ls
    → Reaches rule (record { section = AfterChecksum k; pending = p }) b ls (record { section = AfterChecksum k; pending = p }) b
blanks_reach rule p k b [] are = reaches-nil rule (record { section = AfterChecksum k; pending = p }) b
blanks_reach rule p k b (l ∷ ls) are =
    let s : State = record { section = AfterChecksum k; pending = p } in
    reaches-cons rule s s s b b b l ls [] (rest_step rule p k l are.0) refl (blanks_reach rule p k b ls are.1)

-- letters of data lines don't begin with `=`
begins_same : (s t : List ℕ) → begins_with is_equals s ≡ false → begins_with_equals t ≡ false → begins_with_equals (s ++ t) ≡ false
begins_same [] t h k = k
begins_same (c ∷ s) t h k = h

data_begin : (rule : LineRule) (ls : List Line) → AllByRecursion (IsDataLine rule.most) ls → begins_with_equals (flat_map content ls) ≡ false
data_begin rule [] are = refl
data_begin rule (l ∷ ls) are = begins_same (content l) (flat_map content ls) are.0.no_checksum (data_begin rule ls are.1)

octets_absorbed : (b : Built) (o : List ℕ) → fold absorb b (some_octets o) ≡ record b { octets = b.octets ++ o }
octets_absorbed b [] = rw (append-nil b.octets) refl
octets_absorbed b (x ∷ o) = refl

-- one data line, by its content
record DataStep (rule : LineRule) (k : Label) (p : Pending) (l : Line) (more octets : List ℕ) : Type 0 where
  after : Pending
  out : List ℕ
  left : List ℕ
  stepped : step rule (record { section = Data k; pending = p }) l ≡ Ok (record { section = Data k; pending = after }, some_octets out)
  whole : octets ≡ out ++ left
  awaits : Awaits after more left

data_by : (rule : LineRule) (k : Label) (p : Pending) (l : Line) (more octets c : List ℕ) → c ≡ content l → begins_with is_equals c ≡ false → begins_with is_dash c ≡ false → length l ≤ rule.most
    → Awaits p (c ++ more) octets → begins_with_equals more ≡ false → DataStep rule k p l more octets
data_by rule k p l more octets [] e n1 n2 within awaits begins = record {
  after = p;
  out = [];
  left = octets;
  stepped = step_inside rule (record { section = Data k; pending = p }) l refl within ∙ ap (inside (Data k) p) (sym e);
  whole = refl;
  awaits = awaits;
}
data_by rule k p l more octets (x ∷ c) e n1 n2 within awaits begins =
    let goes = data_line_goes p (x ∷ c) more octets awaits begins (omega arith) in
    let is : inside (Data k) p (x ∷ c) ≡ on_letters k (data_line p (x ∷ c)) = rw (n1, n2) refl in
    record {
      after = goes.next;
      out = goes.out;
      left = goes.left;
      stepped = step_inside rule (record { section = Data k; pending = p }) l refl within ∙ ap (inside (Data k) p) (sym e) ∙ is ∙ ap (on_letters k) goes.ok;
      whole = goes.whole;
      awaits = goes.awaits;
    }

record DataEnd (rule : LineRule) (k : Label) (p : Pending) (b : Built) (ls : List Line) (octets : List ℕ) : Type 0 where
  after : Pending
  none : waits after ≡ false
  reaches : Reaches rule (record { section = Data k; pending = p }) b ls (record { section = Data k; pending = after }) (record b { octets = b.octets ++ octets })

data_reach : (rule : LineRule) (p : Pending) (k : Label) (b : Built) (ls : List Line) (octets : List ℕ) → AllByRecursion (IsDataLine rule.most) ls → Awaits p (flat_map content ls) octets
    → DataEnd rule k p b ls octets
data_reach rule p k b [] octets are awaits =
    let l : length (base64_of octets) ≡ length p.letters = ap length (sym awaits.joined ∙ append-nil p.letters) in
    let z : octets ≡ [] = base64_long octets (let few = awaits.few in omega arith) in
    let zero : length p.letters ≡ 0 = sym l ∙ ap length (ap base64_of z ∙ base64_of-nil) in
    record { after = p; none = rw zero refl; reaches = rw (z, append-nil b.octets) (reaches-nil rule (record { section = Data k; pending = p }) b) }
data_reach rule p k b (l ∷ ls) octets are awaits =
    let one = data_by rule k p l (flat_map content ls) octets (content l) refl are.0.no_checksum are.0.no_end are.0.within awaits (data_begin rule ls are.1) in
    let b1 : Built = record b { octets = b.octets ++ one.out } in
    let rest = data_reach rule one.after k b1 ls one.left are.1 one.awaits in
    let same : (b.octets ++ one.out) ++ one.left ≡ b.octets ++ octets = append_assoc b.octets one.out one.left ∙ ap (λ (v : List ℕ). b.octets ++ v) (sym one.whole) in
    record {
      after = rest.after;
      none = rest.none;
      reaches = reaches-cons rule (record { section = Data k; pending = p }) (record { section = Data k; pending = one.after }) (record { section = Data k; pending = rest.after })
          b b1 (record b { octets = b.octets ++ octets }) l ls (some_octets one.out) one.stepped (octets_absorbed b one.out)
          (subst (λ (v : List ℕ). Reaches rule (record { section = Data k; pending = one.after }) b1 ls (record { section = Data k; pending = rest.after }) (record b { octets = v })) same rest.reaches);
    }

-- the front of a block, up to its end line
record Front (rule : LineRule) (b : Built) (block : Block) (ls : List Line) : Type 0 where
  section : Section
  pending : Pending
  none : waits pending ≡ false
  where_ : (section ≡ Data block.label) ⊎ (section ≡ AfterChecksum block.label)
  reaches : Reaches rule start b ls (record { section = section; pending = pending }) (record { blocks = b.blocks; label = block.label; headers = block.headers; octets = block.octets })

awaits_all : (letters octets : List ℕ) → IsBase64 letters octets → Awaits no_letters letters octets
awaits_all letters octets is = record { joined = is.1; are_octets = all_octets octets is.0; few = omega arith; end = λ e. cc e }

body_reach : (rule : LineRule) (b : Built) (block : Block) (letters : List ℕ) (ls : List Line) → IsBody rule.most block.label block.headers letters ls → IsBase64 letters block.octets
    → (p : Pending) × (waits p ≡ false) × Reaches rule start b ls (record { section = Data block.label; pending = p }) (record { blocks = b.blocks; label = block.label; headers = block.headers; octets = block.octets })
body_reach rule b block letters ls body spelled =
    let k : Label = block.label in
    let b1 : Built = record b { label = k; headers = []; octets = [] } in
    let b2 : Built = record b1 { headers = block.headers } in
    let b3 : Built = record b2 { octets = block.octets } in
    let s1 : State = record { section = Headers k; pending = no_letters } in
    let s2 : State = record { section = Data k; pending = no_letters } in
    let head = body.is_head in
    let awaits : Awaits no_letters (flat_map content body.data_lines) block.octets = subst (λ (v : List ℕ). Awaits no_letters v block.octets) body.joined (awaits_all letters block.octets spelled) in
    let one : Reaches rule start b (head.first ∷ head.rest) s1 b2 =
    reaches-cons rule start s1 s1 b b1 b2 head.first head.rest (Begin k ∷ []) (begin_step rule no_letters k head.first head.begins head.within) refl
    (headers_reach rule no_letters k b1 head.rest block.headers head.headers_are) in
    let data_ = data_reach rule no_letters k b2 body.data_lines block.octets body.are_data_lines awaits in
    let s3 : State = record { section = Data k; pending = data_.after } in
    let two : Reaches rule s1 b2 (body.gap ∷ body.data_lines) s3 b3 =
    reaches-cons rule s1 s2 s3 b2 b2 b3 body.gap body.data_lines [] (gap_step rule no_letters k body.gap body.is_gap) refl data_.reaches in
    let all : Reaches rule start b ((head.first ∷ head.rest) ++ body.gap ∷ body.data_lines) s3 b3 =
    reaches-append rule start s1 s3 b b2 b3 (head.first ∷ head.rest) (body.gap ∷ body.data_lines) one two in
    let same : (head.first ∷ head.rest) ++ body.gap ∷ body.data_lines ≡ ls = ap (λ (v : List Line). v ++ body.gap ∷ body.data_lines) (sym head.are) ∙ sym body.are in
    (data_.after, data_.none, subst (λ (v : List Line). Reaches rule start b v s3 b3) same all)

front_reach : (rule : LineRule) (b : Built) (block : Block) (letters : List ℕ) (ls : List Line) → IsBody rule.most block.label block.headers letters ls ⊎ IsChecked rule.most block.label block.headers letters ls
    → IsBase64 letters block.octets → Front rule b block ls
front_reach rule b block letters ls (inl body) spelled =
    let f = body_reach rule b block letters ls body spelled in
    record { section = Data block.label; pending = f.0; none = f.1; where_ = inl refl; reaches = f.2 }
front_reach rule b block letters ls (inr checked) spelled =
    let k : Label = block.label in
    let f = body_reach rule b block letters checked.body checked.is_body spelled in
    let s1 : State = record { section = Data k; pending = f.0 } in
    let s2 : State = record { section = AfterChecksum k; pending = f.0 } in
    let b3 : Built = record { blocks = b.blocks; label = block.label; headers = block.headers; octets = block.octets } in
    let two : Reaches rule s1 b3 (checked.checksum ∷ checked.blanks) s2 b3 =
    reaches-cons rule s1 s2 s2 b3 b3 b3 checked.checksum checked.blanks [] (checksum_step rule f.0 k checked.checksum checked.is_checksum checked.within f.1) refl
    (blanks_reach rule f.0 k b3 checked.blanks checked.are_blanks) in
    let all = reaches-append rule start s1 s2 b b3 b3 checked.body (checked.checksum ∷ checked.blanks) f.2 two in
    record { section = AfterChecksum k; pending = f.0; none = f.1; where_ = inr refl; reaches = subst (λ (v : List Line). Reaches rule start b v s2 b3) (sym checked.are) all }

-- what is built after a block
abbrev after_block : Built → Block → Built
after_block b block = record { blocks = b.blocks ++ block ∷ []; label = block.label; headers = []; octets = [] }

block_reach : (rule : LineRule) (b : Built) (block : Block) (ls : List Line) → IsBlock rule.most block ls → Reaches rule start b ls start (after_block b block)
block_reach rule b block ls is =
    let k : Label = block.label in
    let f = front_reach rule b block is.letters is.front is.is_front is.spelled in
    let s1 : State = record { section = f.section; pending = f.pending } in
    let b3 : Built = record { blocks = b.blocks; label = block.label; headers = block.headers; octets = block.octets } in
    let steps = end_step rule f.pending k is.last is.ends is.within f.none in
    let stepped : step rule s1 is.last ≡ Ok (start, End ∷ []) = elim f.where_ [
      | inl e ↦ ap (λ (v : Section). step rule (record { section = v; pending = f.pending }) is.last) e ∙ steps.0
      | inr e ↦ ap (λ (v : Section). step rule (record { section = v; pending = f.pending }) is.last) e ∙ steps.1
    ] in
    let last : Reaches rule s1 b3 (is.last ∷ []) start (after_block b block) = reaches_one rule s1 start b3 (after_block b block) is.last (End ∷ []) stepped refl in
    let all = reaches-append rule start s1 start b b3 (after_block b block) is.front (is.last ∷ []) f.reaches last in
    subst (λ (v : List Line). Reaches rule start b v start (after_block b block)) (sym is.are) all

record Ended (rule : LineRule) (b : Built) (ls : List Line) (blocks : List Block) : Type 0 where
  after : Built
  blocks_are : after.blocks ≡ b.blocks ++ blocks
  reaches : Reaches rule start b ls start after

pieces_reach : (rule : LineRule) (b : Built) (ps : List Piece) → AllByRecursion (IsPiece rule) ps → Ended rule b (flat_map lines_of ps) (flat_map blocks_of ps)
pieces_reach rule b [] each = record { after = b; blocks_are = sym (append-nil b.blocks); reaches = reaches-nil rule start b }
pieces_reach rule b (Other l ∷ ps) each =
    let rest = pieces_reach rule b ps each.1 in
    record {
      after = rest.after;
      blocks_are = rest.blocks_are;
      reaches = reaches-cons rule start start start b b rest.after l (flat_map lines_of ps) [] (step_passes rule start l (ap not each.0.0) each.0.1) refl rest.reaches;
    }
pieces_reach rule b (Whole ls block ∷ ps) each =
    let b1 : Built = after_block b block in
    let rest = pieces_reach rule b1 ps each.1 in
    record {
      after = rest.after;
      blocks_are = rest.blocks_are ∙ append_assoc b.blocks (block ∷ []) (flat_map blocks_of ps);
      reaches = reaches-append rule start start start b b1 rest.after ls (flat_map lines_of ps) (block_reach rule b block ls each.0) rest.reaches;
    }

-- What is armored is accepted, and ends outside of all blocks, with its blocks.
pub record Accepted (rule : LineRule) (ls : List Line) (blocks : List Block) : Type 0 where
  pub last : Run
  pub ran : run rule ls ≡ Ok last
  pub outside : last.state ≡ start
  pub blocks_are : (built last.events).blocks ≡ blocks

pub complete : (rule : LineRule) (ls : List Line) (blocks : List Block) → ArePieces rule ls blocks → Accepted rule ls blocks
unfolding built
complete rule ls blocks are =
    let e = pieces_reach rule nothing_built are.pieces are.each in
    let came = e.reaches first (record { state_is = refl; built_is = refl }) in
    record {
      last = came.run_;
      ran = ap (λ (v : List Line). run rule v) are.are ∙ came.ran;
      outside = came.at.state_is;
      blocks_are = ap (λ (v : Built). v.blocks) came.at.built_is ∙ e.blocks_are ∙ sym are.blocks_are;
    }

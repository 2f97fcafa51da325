-- What goes on can be completed, and the first line that stops the machine is the fault.
use Rattle.std.proofs.Common.{◌≡◌, ℕ, zero, suc, ◌-◌, ◌<◌, ◌≤◌, ◌%◌, true, false, List, [], ◌∷◌, ◌++◌, length, replicate, refl, sym, ap, ◌∙◌, arith, inl, inr, ◌⊎◌, subst, Ok, Err}
use Rattle.std.proofs.lemmas.List.{append_assoc, append-nil, length-append, nil_from_length}
use Rattle.std.proofs.lemmas.List.Concat.{flat_map-append}
use Rattle.std.proofs.lemmas.Bool.{cases_Bool, cases_lt, eqb-true, ltb-false}
use Rattle.std.specs.List.{flat_map, AllByRecursion, list_all}
use Rattle.std.specs.declared.result.Result.{Result}
use Rattle.opgp_armor.specs.Rules.{LineRule}
use Rattle.opgp_armor.specs.declared.label.Label.{Label}
use Rattle.opgp_armor.specs.declared.label.Label.TheVariants.{Message, PublicKeyBlock, PrivateKeyBlock, Signature}
use Rattle.opgp_armor.specs.declared.section.Section.{Section}
use Rattle.opgp_armor.specs.declared.section.Section.TheVariants.{Outside, Headers, Data, AfterChecksum}
use Rattle.opgp_octets.specs.declared.fault.Reason.{Reason}
use Rattle.opgp_armor.specs.Letters.{is_equals, is_octet, IsBase64, base64_of, Pending}
use Rattle.opgp_armor.proofs.Octets.{each_octet}
use Rattle.opgp_armor.proofs.Awaiting.{Holds}
use Rattle.opgp_armor.specs.Text.{Line, lines, content, begin_line, end_line}
use Rattle.opgp_armor.specs.Armored.{Opens, Block, ArePieces, Whole, IsBlock, IsHead, IsBody, IsChecked, IsBlank, IsDataLine, begins_with, is_dash}
use Rattle.opgp_armor.specs.Machine.{Run, Answer, waits, step, onward, run_from, first, run}
use Rattle.opgp_armor.specs.Events.{Built, built}
use Rattle.opgp_armor.proofs.Lists.{recursion-append, piece_more}
use Rattle.opgp_armor.proofs.Standard.{base64_of-nil, base64_of-append, complete as complete_group}
use Rattle.opgp_armor.proofs.DataLine.{not_false, octets-append}
use Rattle.opgp_armor.proofs.Standard.{octets_from_test as by_octets}
use Rattle.opgp_armor.proofs.Sound.{Stage, sound, relist, run-more, run_err, run-cons, run-nil}
use Rattle.opgp_armor.proofs.Complete.{complete}
use Rattle.opgp_armor.specs.Written.{text_of}
use Rattle.opgp_armor.proofs.Texts.{IsLine, lines-text_of, octets-text_of}
use Rattle.opgp_armor.specs.Cuts.{is_plain}

-- lines that complete an open block
record Closed (limit : ℕ) (ls : List Line) : Type 0 where
  extra : List Line
  block : Block
  are_extra : AllByRecursion IsLine extra
  is_block : IsBlock limit block (ls ++ extra)

line_is : (l : Line) → list_all is_octet l ≡ true → list_all is_plain l ≡ true → IsLine l
line_is l o p = record { octets = by_octets l o; plain = p }

end_is_line : (k : Label) → IsLine (end_line k)
end_is_line Message = line_is (end_line Message) refl refl
end_is_line PublicKeyBlock = line_is (end_line PublicKeyBlock) refl refl
end_is_line PrivateKeyBlock = line_is (end_line PrivateKeyBlock) refl refl
end_is_line Signature = line_is (end_line Signature) refl refl

end_content : (k : Label) → content (end_line k) ≡ end_line k
unfolding content
end_content Message = refl
end_content PublicKeyBlock = refl
end_content PrivateKeyBlock = refl
end_content Signature = refl

end_length : (k : Label) → length (end_line k) < 128
end_length Message = omega arith
end_length PublicKeyBlock = omega arith
end_length PrivateKeyBlock = omega arith
end_length Signature = omega arith

begin_is : IsLine (begin_line Message) × (content (begin_line Message) ≡ begin_line Message)
unfolding content
begin_is = (line_is (begin_line Message) refl refl, refl)

blank_content : content [] ≡ []
unfolding content
blank_content = refl

module _ (limit : ℕ) (large : 128 ≤ limit) where
  gap_is : IsBlank limit []
  gap_is = record { blank = blank_content; within = omega arith }

  -- a block's lines without its last group of letters and its end line
  close : (k : Label) (headers : List (List ℕ × List ℕ)) (letters octets : List ℕ) (ls : List Line) → IsBody limit k headers letters ls ⊎ IsChecked limit k headers letters ls
      → IsBase64 letters octets → Closed limit ls
  close k headers letters octets ls front spelled = record {
    extra = end_line k ∷ [];
    block = record { label = k; headers = headers; octets = octets };
    are_extra = (end_is_line k, tt);
    is_block = record { front = ls; last = end_line k; letters = letters; are = refl; is_front = front; spelled = spelled; ends = end_content k; within = omega (arith, end_length k) };
  }

  nil_spelled : IsBase64 [] []
  nil_spelled = (each_octet [] tt, sym base64_of-nil)

  close_head : (k : Label) (headers : List (List ℕ × List ℕ)) (ls : List Line) → IsHead limit k headers ls → Closed limit ls
  close_head k headers ls head =
      let body : IsBody limit k headers [] (ls ++ [] ∷ []) = record { head = ls; gap = []; data_lines = []; are = refl; is_head = head; is_gap = gap_is; are_data_lines = tt; joined = refl } in
      let c = close k headers [] [] (ls ++ [] ∷ []) (inl body) nil_spelled in
      record { extra = [] ∷ c.extra; block = c.block; are_extra = (line_is [] refl refl, c.are_extra); is_block = subst (IsBlock limit c.block) (append_assoc ls ([] ∷ []) c.extra) c.is_block }

  body_more : (k : Label) (headers : List (List ℕ × List ℕ)) (letters : List ℕ) (ls : List Line) (l : Line) → IsBody limit k headers letters ls → IsDataLine limit l
      → IsBody limit k headers (letters ++ content l) (ls ++ l ∷ [])
  body_more k headers letters ls l body is = record {
    head = body.head;
    gap = body.gap;
    data_lines = body.data_lines ++ l ∷ [];
    are = ap (λ (v : List Line). v ++ l ∷ []) body.are ∙ append_assoc body.head (body.gap ∷ body.data_lines) (l ∷ []);
    is_head = body.is_head;
    is_gap = body.is_gap;
    are_data_lines = recursion-append (IsDataLine limit) body.data_lines (l ∷ []) body.are_data_lines (is, tt);
    joined = rw body.joined (sym (flat_map-append content body.data_lines (l ∷ []) ∙ ap (λ (v : List ℕ). flat_map content body.data_lines ++ v) (append-nil (content l))));
  }

  -- letters `A`, up to three
  fill_content : (n : ℕ) → n < 4 → content (replicate n 65) ≡ replicate n 65
  unfolding content
  fill_content zero h = refl
  fill_content (suc zero) h = refl
  fill_content (suc (suc zero)) h = refl
  fill_content (suc (suc (suc zero))) h = refl
  fill_content (suc (suc (suc (suc n)))) h = absurd (omega arith)

  fill_line : (n : ℕ) → n < 4 → IsLine (replicate n 65) × (length {A = ℕ} (replicate n 65) ≤ limit) × (begins_with is_equals (replicate n 65) ≡ false) × (begins_with is_dash (replicate n 65) ≡ false)
  fill_line zero h = (line_is [] refl refl, omega arith, refl, refl)
  fill_line (suc zero) h = (line_is (65 ∷ []) refl refl, omega arith, refl, refl)
  fill_line (suc (suc zero)) h = (line_is (65 ∷ 65 ∷ []) refl refl, omega arith, refl, refl)
  fill_line (suc (suc (suc zero))) h = (line_is (65 ∷ 65 ∷ 65 ∷ []) refl refl, omega arith, refl, refl)
  fill_line (suc (suc (suc (suc n)))) h = absurd (omega arith)

  fill_data : (n : ℕ) → n < 4 → IsDataLine limit (replicate n 65)
  fill_data n h =
      let f = fill_line n h in
      let e = fill_content n h in
      record { no_checksum = ap (begins_with is_equals) e ∙ f.2; no_end = ap (begins_with is_dash) e ∙ f.3; within = f.1 }

  close_data : (k : Label) (headers : List (List ℕ × List ℕ)) (letters octets : List ℕ) (p : Pending) (ls : List Line) → IsBody limit k headers letters ls → Holds letters octets p → Closed limit ls
  close_data k headers letters octets p ls body held = elim (cases_lt 0 (length p.letters)) [
    | inl some ↦
        let few : length p.letters < 4 = held.few in
        let n : ℕ = 4 - length p.letters in
        let small : n < 4 = omega arith in
        let group = complete_group p.letters some few held.are_letters in
        let open_ : p.padded ≡ false = elim (cases_Bool p.padded) [
          | inl y ↦ let z : length p.letters ≡ 0 = ap length (held.end y) in absurd (omega arith)
          | inr no_ ↦ no_
        ] in
        let whole : length octets % 3 ≡ 0 = eqb-true _ 0 (not_false _ (sym held.padding ∙ open_)) in
        let more : List Line = ls ++ replicate n 65 ∷ [] in
        let body2 : IsBody limit k headers (letters ++ content (replicate n 65)) more = body_more k headers letters ls (replicate n 65) body (fill_data n small) in
        let joined : letters ++ content (replicate n 65) ≡ base64_of (octets ++ group.octets) =
        ap (λ (v : List ℕ). letters ++ v) (fill_content n small)
        ∙ ap (λ (v : List ℕ). v ++ replicate n 65) held.joined
        ∙ append_assoc (base64_of octets) p.letters (replicate n 65)
        ∙ ap (λ (v : List ℕ). base64_of octets ++ v) (sym group.is)
        ∙ sym (base64_of-append octets group.octets whole) in
        let c = close k headers (letters ++ content (replicate n 65)) (octets ++ group.octets) more (inl body2) (each_octet (octets ++ group.octets) (octets-append octets group.octets held.are_octets group.are_octets), joined) in
        record {
          extra = replicate n 65 ∷ c.extra;
          block = c.block;
          are_extra = ((fill_line n small).0, c.are_extra);
          is_block = subst (IsBlock limit c.block) (append_assoc ls (replicate n 65 ∷ []) c.extra) c.is_block;
        }
    | inr none ↦
        let z : p.letters ≡ [] = nil_from_length p.letters (omega arith) in
        let joined : letters ≡ base64_of octets = held.joined ∙ ap (λ (v : List ℕ). base64_of octets ++ v) z ∙ append-nil (base64_of octets) in
        close k headers letters octets ls (inl body) (each_octet octets held.are_octets, joined)
  ]

  close_checked : (k : Label) (headers : List (List ℕ × List ℕ)) (letters octets : List ℕ) (p : Pending) (ls : List Line) → IsChecked limit k headers letters ls → Holds letters octets p → waits p ≡ false → Closed limit ls
  close_checked k headers letters octets p ls checked held none =
      let z : p.letters ≡ [] = nil_from_length p.letters (let l : length p.letters ≤ 0 = ltb-false 0 (length p.letters) none in omega arith) in
      let joined : letters ≡ base64_of octets = held.joined ∙ ap (λ (v : List ℕ). base64_of octets ++ v) z ∙ append-nil (base64_of octets) in
      close k headers letters octets ls (inr checked) (each_octet octets held.are_octets, joined)

  -- a block of no octets
  close_none : Closed limit []
  close_none =
      let head : IsHead limit Message [] (begin_line Message ∷ []) = record { first = begin_line Message; rest = []; are = refl; begins = begin_is.1; within = omega arith; headers_are = tt } in
      let c = close_head Message [] (begin_line Message ∷ []) head in
      record { extra = begin_line Message ∷ c.extra; block = c.block; are_extra = (begin_is.0, c.are_extra); is_block = c.is_block }

  close_stage : (section : Section) (p : Pending) (b : Built) (ls : List Line) → Stage limit section p b ls → Closed limit ls
  close_stage Outside p b ls stage = subst (Closed limit) (sym stage.0) close_none
  close_stage (Headers k) p b ls stage = close_head k b.headers ls stage.1
  close_stage (Data k) p b ls stage = close_data k b.headers stage.0 b.octets p ls stage.2 stage.3
  close_stage (AfterChecksum k) p b ls stage = close_checked k b.headers stage.0 b.octets p ls stage.2 stage.3 stage.4

-- What the machine accepts so far is the beginning of an armored text.
pub extends : (rule : LineRule) → 128 ≤ rule.most → (ls : List Line) (r : Run) → AllByRecursion IsLine ls → run rule ls ≡ Ok r → Opens rule ls
extends rule large ls r are ran =
    let upto = sound rule ls r ran in
    let c = close_stage rule.most large r.state.section r.state.pending (built r.events) upto.open_ upto.stage in
    let bs : List Block = (built r.events).blocks ++ c.block ∷ [] in
    let pieces : ArePieces rule (upto.done ++ (upto.open_ ++ c.extra)) bs =
    piece_more rule upto.done (upto.open_ ++ c.extra) (built r.events).blocks (c.block ∷ []) (Whole (upto.open_ ++ c.extra) c.block) upto.pieces c.is_block refl refl in
    let same : upto.done ++ (upto.open_ ++ c.extra) ≡ ls ++ c.extra = sym (append_assoc upto.done upto.open_ c.extra) ∙ ap (λ (v : List Line). v ++ c.extra) (sym upto.are) in
    let all : AllByRecursion IsLine (ls ++ c.extra) = recursion-append IsLine ls c.extra are c.are_extra in
    let text : List ℕ = text_of (ls ++ c.extra) in
    let is : lines text ≡ ls ++ c.extra = lines-text_of (ls ++ c.extra) all in
    record {
      text = text;
      blocks = bs;
      more = c.extra;
      octets = each_octet text (octets-text_of (ls ++ c.extra) all);
      armored = record {
        whole = relist rule (upto.done ++ (upto.open_ ++ c.extra)) (lines text) bs bs (same ∙ sym is) refl pieces;
        some = omega (arith, length-append (built r.events).blocks (c.block ∷ []));
      };
      begins = is;
    }

by_run : (rule : LineRule) (more : List Line) (last : Run) (n : Result Run Reason) → run_from rule n more ≡ Ok last → (r : Run) × (n ≡ Ok r)
by_run rule more last (Ok r) h = (r, refl)
by_run rule more last (Err e) h = cc (sym (run_err rule e more) ∙ h)

-- An armored text's first lines are accepted.
pub opens_ran : (rule : LineRule) (ls : List Line) → Opens rule ls → (r : Run) × (run rule ls ≡ Ok r)
opens_ran rule ls opens =
    let a = complete rule (lines opens.text) opens.blocks opens.armored.whole in
    let ran : run_from rule (run rule ls) opens.more ≡ Ok a.last = sym (run-more rule (Ok first) ls opens.more) ∙ ap (run rule) (sym opens.begins) ∙ a.ran in
    by_run rule opens.more a.last (run rule ls) ran

-- The first line that stops the machine: no armored text begins so.
pub stopped : (rule : LineRule) (before : List Line) (l : Line) (r : Run) (e : Reason) → run rule before ≡ Ok r → step rule r.state l ≡ Err e → Opens rule (before ++ l ∷ []) → ⊥
stopped rule before l r e ran err opens =
    let o = opens_ran rule (before ++ l ∷ []) opens in
    let stop : run rule (before ++ l ∷ []) ≡ Err e =
    run-more rule (Ok first) before (l ∷ []) ∙ ap (λ (v : Result Run Reason). run_from rule v (l ∷ [])) ran
    ∙ run-cons rule (Ok r) l [] ∙ ap (λ (v : Answer). run_from rule (onward r.events v) []) err ∙ run-nil rule (Err e) in
    cc (sym o.1 ∙ stop)

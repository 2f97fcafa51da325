-- The lines of a block behind its first, one after the other; and all its lines, written.
use Rattle.std.proofs.Common.{◌≡◌, ℕ, suc, ◌+◌, ◌-◌, true, false, List, [], ◌∷◌, ◌++◌, length, take, map, refl, sym, ap, ◌∙◌, arith, append_assoc, append-nil}
use Rattle.std.proofs.lemmas.Grind.{flat_map-append}
use Rattle.std.proofs.lemmas.List.{length-append}
use Rattle.std.proofs.Math.Seq.{take-append_seam, take-nil}
use Rattle.opgp_blocks.specs.Blocks.{FoundValue, blocks, cleaned, end_of, found_of, found_among, lines_from, up_to_end}
use Rattle.opgp_blocks.specs.Line.{Shown, begins, ends, shown_from}

-- ---- a line more
pub begins_one : (t : Shown) (ss : List Shown) → begins t.content ≡ true → blocks (t ∷ ss) ≡ (t ∷ up_to_end ss) ∷ blocks ss
unfolding blocks
begins_one t ss b = rw b refl

pub begins_none : (t : Shown) (ss : List Shown) → begins t.content ≡ false → blocks (t ∷ ss) ≡ blocks ss
unfolding blocks
begins_none t ss b = rw b refl

pub no_blocks : blocks [] ≡ []
unfolding blocks
no_blocks = refl

pub stops : (t : Shown) (ss : List Shown) → begins t.content ≡ true → up_to_end (t ∷ ss) ≡ []
unfolding up_to_end
stops t ss b = rw b refl

pub closes : (t : Shown) (ss : List Shown) → begins t.content ≡ false → ends t.content ≡ true → up_to_end (t ∷ ss) ≡ t ∷ []
unfolding up_to_end
closes t ss b e = rw (b, e) refl

pub goes_on : (t : Shown) (ss : List Shown) → begins t.content ≡ false → ends t.content ≡ false → up_to_end (t ∷ ss) ≡ t ∷ up_to_end ss
unfolding up_to_end
goes_on t ss b e = rw (b, e) refl

pub no_rest : up_to_end [] ≡ []
unfolding up_to_end
no_rest = refl

-- ---- where a block begins
pub found_begin : (text : List ℕ) (at first next : ℕ) (t : Shown) → blocks (shown_from first text) ≡ blocks (shown_from at text) → shown_from first text ≡ t ∷ shown_from next text
    → begins t.content ≡ true → blocks (shown_from at text) ≡ (t ∷ up_to_end (shown_from next text)) ∷ blocks (shown_from next text)
found_begin text at first next t left is b = sym left ∙ ap blocks is ∙ begins_one t (shown_from next text) b

pub passed_line : (text : List ℕ) (at first next : ℕ) (t : Shown) → blocks (shown_from first text) ≡ blocks (shown_from at text) → shown_from first text ≡ t ∷ shown_from next text
    → begins t.content ≡ false → blocks (shown_from next text) ≡ blocks (shown_from at text)
passed_line text at first next t left is b = sym (ap blocks is ∙ begins_none t (shown_from next text) b) ∙ left

pub found_none : (text : List ℕ) (at first : ℕ) → blocks (shown_from first text) ≡ blocks (shown_from at text) → shown_from first text ≡ [] → blocks (shown_from at text) ≡ []
found_none text at first left is = sym left ∙ ap blocks is ∙ no_blocks

-- ---- the lines behind the first
-- These lines of a block were passed: so many, up to `next`; the last one's content ends at `end`.
pub record Passed (text : List ℕ) (begin : Shown) (start lines end wanted next : ℕ) : Type 0 where
  pub passed : List Shown
  pub all : shown_from start text ≡ passed ++ shown_from next text
  pub more : up_to_end (shown_from start text) ≡ passed ++ up_to_end (shown_from next text)
  pub same : blocks (shown_from next text) ≡ blocks (shown_from start text)
  pub count : lines ≡ length passed
  pub ends_at : end ≡ end_of begin passed
  pub octets : wanted ≡ length (cleaned passed)

pub none_passed : (text : List ℕ) (begin : Shown) (start end : ℕ) → end ≡ begin.at + length begin.content → Passed text begin start 0 end 0 start
none_passed text begin start end e = record { passed = []; all = refl; more = refl; same = refl; count = refl; ends_at = e; octets = refl }

end_last : (s : Shown) (ss : List Shown) (t : Shown) → end_of s (ss ++ t ∷ []) ≡ t.at + length t.content
end_last s [] t = refl
end_last s (u ∷ ss) t = end_last u ss t

one_cleaned : (t : Shown) → length (cleaned (t ∷ [])) ≡ length t.content + 1
one_cleaned t = ap (length {A = ℕ}) (append-nil (t.content ++ 10 ∷ [])) ∙ length-append t.content (10 ∷ [])

cleaned_last : (ss : List Shown) (t : Shown) → length (cleaned (ss ++ t ∷ [])) ≡ length (cleaned ss) + (length t.content + 1)
cleaned_last ss t =
    ap (length {A = ℕ}) (flat_map-append (λ (s : Shown). s.content ++ 10 ∷ []) ss (t ∷ []))
    ∙ length-append (cleaned ss) (cleaned (t ∷ [])) ∙ ap (λ (n : ℕ). length (cleaned ss) + n) (one_cleaned t)

pub pass : (text : List ℕ) (begin : Shown) (start lines end wanted at next : ℕ) (t : Shown) → Passed text begin start lines end wanted at → shown_from at text ≡ t ∷ shown_from next text
    → begins t.content ≡ false → ends t.content ≡ false → Passed text begin start (lines + 1) (t.at + length t.content) (wanted + length t.content + 1) next
pass text begin start lines end wanted at next t p is b e = record {
  passed = p.passed ++ t ∷ [];
  all = p.all ∙ ap (λ (ss : List Shown). p.passed ++ ss) is ∙ sym (append_assoc p.passed (t ∷ []) (shown_from next text));
  more = p.more ∙ ap (λ (ss : List Shown). p.passed ++ up_to_end ss) is ∙ ap (λ (ss : List Shown). p.passed ++ ss) (goes_on t (shown_from next text) b e)
      ∙ sym (append_assoc p.passed (t ∷ []) (up_to_end (shown_from next text)));
  same = passed_line text start at next t p.same is b;
  count = omega (arith, p.count, length-append p.passed (t ∷ []));
  ends_at = sym (end_last begin p.passed t);
  octets = omega (arith, p.octets, cleaned_last p.passed t);
}

-- all were passed
pub record IsRest (text : List ℕ) (begin : Shown) (start lines end wanted next : ℕ) : Type 0 where
  pub lines_are : lines_from lines start text ≡ up_to_end (shown_from start text)
  pub end_is : end ≡ end_of begin (up_to_end (shown_from start text))
  pub wanted_is : wanted ≡ length (cleaned (up_to_end (shown_from start text)))
  pub next_is : blocks (shown_from next text) ≡ blocks (shown_from start text)

these : (text : List ℕ) (begin : Shown) (start lines end wanted next : ℕ) (passed : List Shown) → shown_from start text ≡ passed ++ shown_from next text → up_to_end (shown_from start text) ≡ passed
    → lines ≡ length passed → end ≡ end_of begin passed → wanted ≡ length (cleaned passed) → blocks (shown_from next text) ≡ blocks (shown_from start text) → IsRest text begin start lines end wanted next
these text begin start lines end wanted next passed all are count ends_at octets same = record {
  lines_are = ap (λ (n : ℕ). take n (shown_from start text)) count ∙ ap (take (length passed)) all ∙ take-append_seam passed (shown_from next text) ∙ sym are;
  end_is = ends_at ∙ ap (end_of begin) (sym are);
  wanted_is = octets ∙ ap (λ (ss : List Shown). length (cleaned ss)) (sym are);
  next_is = same;
}

pub rest_stops : (text : List ℕ) (begin : Shown) (start lines end wanted at next : ℕ) (t : Shown) → Passed text begin start lines end wanted at → shown_from at text ≡ t ∷ shown_from next text
    → begins t.content ≡ true → IsRest text begin start lines end wanted at
rest_stops text begin start lines end wanted at next t p is b =
    let none : up_to_end (shown_from at text) ≡ [] = ap up_to_end is ∙ stops t (shown_from next text) b in
    these text begin start lines end wanted at p.passed p.all (p.more ∙ ap (λ (ss : List Shown). p.passed ++ ss) none ∙ append-nil p.passed) p.count p.ends_at p.octets p.same

pub rest_ends : (text : List ℕ) (begin : Shown) (start lines end wanted at : ℕ) → Passed text begin start lines end wanted at → shown_from at text ≡ []
    → IsRest text begin start lines end wanted at
rest_ends text begin start lines end wanted at p is =
    let none : up_to_end (shown_from at text) ≡ [] = ap up_to_end is ∙ no_rest in
    these text begin start lines end wanted at p.passed p.all (p.more ∙ ap (λ (ss : List Shown). p.passed ++ ss) none ∙ append-nil p.passed) p.count p.ends_at p.octets p.same

pub rest_closes : (text : List ℕ) (begin : Shown) (start lines end wanted at next : ℕ) (t : Shown) → Passed text begin start lines end wanted at → shown_from at text ≡ t ∷ shown_from next text
    → begins t.content ≡ false → ends t.content ≡ true → IsRest text begin start (lines + 1) (t.at + length t.content) (wanted + length t.content + 1) next
rest_closes text begin start lines end wanted at next t p is b e =
    these text begin start (lines + 1) (t.at + length t.content) (wanted + length t.content + 1) next (p.passed ++ t ∷ [])
    (p.all ∙ ap (λ (ss : List Shown). p.passed ++ ss) is ∙ sym (append_assoc p.passed (t ∷ []) (shown_from next text)))
    (p.more ∙ ap (λ (ss : List Shown). p.passed ++ up_to_end ss) is ∙ ap (λ (ss : List Shown). p.passed ++ ss) (closes t (shown_from next text) b e))
    (omega (arith, p.count, length-append p.passed (t ∷ []))) (sym (end_last begin p.passed t)) (omega (arith, p.octets, cleaned_last p.passed t)) (passed_line text start at next t p.same is b)

-- ---- all lines of a block
pub lines_more : (text : List ℕ) (at next count left : ℕ) (t : Shown) → count ≡ left + 1 → shown_from at text ≡ t ∷ shown_from next text → lines_from count at text ≡ t ∷ lines_from left next text
lines_more text at next count left t e is =
    let s : count ≡ suc left = omega arith in
    ap (λ (n : ℕ). lines_from n at text) s ∙ ap (take (suc left)) is

pub lines_none : (text : List ℕ) (at count : ℕ) → shown_from at text ≡ [] → lines_from count at text ≡ []
lines_none text at count is = ap (take count) is ∙ take-nil count

-- lines that are written, and those that are left
pub line_written : (text before out mid new : List ℕ) (at next count left : ℕ) (t : Shown) (all : List ℕ) → count ≡ left + 1 → shown_from at text ≡ t ∷ shown_from next text
    → out ++ cleaned (lines_from count at text) ≡ before ++ all → mid ≡ out ++ t.content → new ≡ mid ++ 10 ∷ []
    → new ++ cleaned (lines_from left next text) ≡ before ++ all
line_written text before out mid new at next count left t all e is h m n =
    let rest : List ℕ = cleaned (lines_from left next text) in
    let one : new ≡ out ++ (t.content ++ 10 ∷ []) = n ∙ ap (λ (o : List ℕ). o ++ 10 ∷ []) m ∙ append_assoc out t.content (10 ∷ []) in
    ap (λ (o : List ℕ). o ++ rest) one ∙ append_assoc out (t.content ++ 10 ∷ []) rest
    ∙ ap (λ (ss : List Shown). out ++ cleaned ss) (sym (lines_more text at next count left t e is)) ∙ h

pub line_room : (text : List ℕ) (at next count left : ℕ) (t : Shown) → count ≡ left + 1 → shown_from at text ≡ t ∷ shown_from next text
    → length (cleaned (lines_from count at text)) ≡ length t.content + 1 + length (cleaned (lines_from left next text))
line_room text at next count left t e is =
    ap (λ (ss : List Shown). length (cleaned ss)) (lines_more text at next count left t e is)
    ∙ length-append (t.content ++ 10 ∷ []) (cleaned (lines_from left next text))
    ∙ ap (λ (n : ℕ). n + length (cleaned (lines_from left next text))) (length-append t.content (10 ∷ []))

pub all_written : (text : List ℕ) (at count : ℕ) (out whole : List ℕ) → lines_from count at text ≡ [] → out ++ cleaned (lines_from count at text) ≡ whole → out ≡ whole
all_written text at count out whole e h = sym (append-nil out) ∙ ap (λ (ss : List Shown). out ++ cleaned ss) (sym e) ∙ h

-- ---- the next block
pub block_lines : (text : List ℕ) (first next lines : ℕ) (t : Shown) → shown_from first text ≡ t ∷ shown_from next text → lines_from lines next text ≡ up_to_end (shown_from next text)
    → lines_from (lines + 1) first text ≡ t ∷ up_to_end (shown_from next text)
block_lines text first next lines t is rest = lines_more text first next (lines + 1) lines t refl is ∙ ap (λ (ss : List Shown). t ∷ ss) rest

pub block_wanted : (text : List ℕ) (first next lines size wanted : ℕ) (t : Shown) → shown_from first text ≡ t ∷ shown_from next text → lines_from lines next text ≡ up_to_end (shown_from next text)
    → size ≡ length t.content → wanted ≡ length (cleaned (up_to_end (shown_from next text))) → size + 1 + wanted ≡ length (cleaned (lines_from (lines + 1) first text))
block_wanted text first next lines size wanted t is rest e w =
    omega (
      arith,
      e,
      w,
      line_room text first next (lines + 1) lines t refl is,
      ap (λ (ss : List Shown). length (cleaned ss)) rest,
    )

pub next_found : (text : List ℕ) (at first here lines next size : ℕ) (t : Shown) → blocks (shown_from at text) ≡ (t ∷ up_to_end (shown_from here text)) ∷ blocks (shown_from here text)
    → shown_from first text ≡ t ∷ shown_from here text → lines_from lines here text ≡ up_to_end (shown_from here text)
    → blocks (shown_from next text) ≡ blocks (shown_from here text) → size ≡ end_of t (up_to_end (shown_from here text)) - t.at
    → found_among (shown_from at text) ≡ (record { at = t.at; size = size; octets = cleaned (lines_from (lines + 1) first text) }) ∷ found_among (shown_from next text)
next_found text at first here lines next size t all is rest same e =
    let octets : cleaned (t ∷ up_to_end (shown_from here text)) ≡ cleaned (lines_from (lines + 1) first text) =
    ap cleaned (sym (block_lines text first here lines t is rest)) in
    ap (map found_of) all
    ∙ ap (λ (n : ℕ). (let f : FoundValue = record { at = t.at; size = n; octets = cleaned (t ∷ up_to_end (shown_from here text)) } in f) ∷ found_among (shown_from here text)) (sym e)
    ∙ ap (λ (o : List ℕ). (let f : FoundValue = record { at = t.at; size = size; octets = o } in f) ∷ found_among (shown_from here text)) octets
    ∙ ap (λ (bs : List (List Shown)). (let f : FoundValue = record { at = t.at; size = size; octets = cleaned (lines_from (lines + 1) first text) } in f) ∷ map found_of bs) (sym same)

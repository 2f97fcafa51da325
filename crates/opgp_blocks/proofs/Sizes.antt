-- Cleaned blocks have no more octets than their text, and one line feed.
use Rattle.std.proofs.Common.{◌≡◌, ◌∙◌, ℕ, ◌+◌, ◌≤◌, ◌==◌, Bool, true, false, if◌then◌else◌, List, [], ◌∷◌, ◌++◌, length, drop, map, ap, refl, inl, inr, arith}
use Rattle.std.proofs.lemmas.Bool.{cases_Bool, eqb-true}
use Rattle.std.proofs.lemmas.List.{length-append, length-drop}
use Rattle.opgp_armor.specs.Cuts.{is_plain}
use Rattle.opgp_armor.specs.Text.{Line, lines, offset, onto}
use Rattle.opgp_armor.proofs.Texts.{lines-cons, lines-feed, lines-nil}
use Rattle.opgp_blocks.specs.Blocks.{FoundValue, cleaned, cleaned_in, found_among, found_of, octets_of, up_to_end}
use Rattle.opgp_blocks.specs.Line.{Shown, begins, behind_leading, ends, first_at, is_ending, is_leading, shown_at, shown_from, shown_lines, without_endings}
use Rattle.opgp_blocks.proofs.Rests.{begins_none, begins_one, closes, goes_on, no_blocks, no_rest, stops}

-- ---- a line's content
leading_if : (b : Bool) (c : ℕ) (o l : List ℕ) → length o ≤ length l → length (if b then o else c ∷ l) ≤ length l + 1
leading_if true c o l h = omega arith
leading_if false c o l h = omega arith

leading_few : (l : List ℕ) → length (behind_leading l) ≤ length l
unfolding behind_leading
leading_few [] = omega arith
leading_few (c ∷ l) = omega (arith, leading_if (is_leading c) c (behind_leading l) l (leading_few l))

endings_if : (b : Bool) (c : ℕ) (o : List ℕ) → length (if b then [] else c ∷ o) ≤ length o + 1
endings_if true c o = omega arith
endings_if false c o = omega arith

endings_few : (l : List ℕ) → length (without_endings l) ≤ length l
unfolding without_endings
endings_few [] = omega arith
endings_few (c ∷ l) = omega (arith, endings_if (is_ending (c ∷ without_endings l)) c (without_endings l), endings_few l)

-- ---- lines
one_more : (s : Shown) (ss : List Shown) → length (cleaned (s ∷ ss)) ≡ (length s.content + 1) + length (cleaned ss)
one_more s ss = omega (arith, length-append (s.content ++ 10 ∷ []) (cleaned ss), length-append s.content (10 ∷ []))

lines_few : (at : ℕ) (ls : List Line) → length (cleaned (shown_lines at ls)) ≤ offset ls
unfolding shown_lines
lines_few at [] = omega arith
lines_few at (l ∷ ls) =
    omega (
      arith,
      one_more (shown_at at l) (shown_lines (at + (length l + 1)) ls),
      lines_few (at + (length l + 1)) ls,
      endings_few (behind_leading l),
      leading_few l,
    )

onto_few : (c n : ℕ) (ls : List Line) → offset ls ≤ n + 1 → offset (onto c ls) ≤ (n + 1) + 1
onto_few c n [] h = omega arith
onto_few c n (l ∷ ls) h = omega arith

offset_few : (text : List ℕ) → offset (lines text) ≤ length text + 1
offset_few [] = omega (arith, ap offset lines-nil)
offset_few (c ∷ text) = elim (cases_Bool (c == 10)) [
  | inl y ↦
      let e : lines (c ∷ text) ≡ [] ∷ lines text = ap (λ (v : ℕ). lines (v ∷ text)) (eqb-true c 10 y) ∙ lines-feed text in
      omega (arith, ap offset e, offset_few text)
  | inr n ↦
      let p : is_plain c ≡ true = rw n refl in
      omega (arith, ap offset (lines-cons c text p), onto_few c (length text) (lines text) (offset_few text))
]

-- ---- blocks
octets_more : (f : FoundValue) (fs : List FoundValue) → length (octets_of (f ∷ fs)) ≡ length f.octets + length (octets_of fs)
octets_more f fs = length-append f.octets (octets_of fs)

-- what is left of a block, and the blocks behind it, are different lines
both_few : (ss : List Shown) → length (cleaned (up_to_end ss)) + length (octets_of (found_among ss)) ≤ length (cleaned ss)
both_few [] = omega (arith, ap (λ (x : List Shown). length (cleaned x)) no_rest, ap (λ (x : List (List Shown)). length (octets_of (map found_of x))) no_blocks)
both_few (s ∷ ss) = elim (cases_Bool (begins s.content)) [
  | inl b ↦
      omega (
        arith,
        ap (λ (x : List Shown). length (cleaned x)) (stops s ss b),
        ap (λ (x : List (List Shown)). length (octets_of (map found_of x))) (begins_one s ss b),
        octets_more (found_of (s ∷ up_to_end ss)) (found_among ss),
        one_more s (up_to_end ss),
        one_more s ss,
        both_few ss,
      )
  | inr n ↦ elim (cases_Bool (ends s.content)) [
    | inl e ↦
        omega (
          arith,
          ap (λ (x : List Shown). length (cleaned x)) (closes s ss n e),
          ap (λ (x : List (List Shown)). length (octets_of (map found_of x))) (begins_none s ss n),
          one_more s [],
          one_more s ss,
          both_few ss,
        )
    | inr o ↦
        omega (
          arith,
          ap (λ (x : List Shown). length (cleaned x)) (goes_on s ss n o),
          ap (λ (x : List (List Shown)). length (octets_of (map found_of x))) (begins_none s ss n),
          one_more s (up_to_end ss),
          one_more s ss,
          both_few ss,
        )
  ]
]

pub octets_few : (text : List ℕ) → length (cleaned_in text) ≤ length text + 1
octets_few text =
    let at : ℕ = first_at text in
    omega (arith, both_few (shown_from at text), lines_few at (lines (drop at text)), offset_few (drop at text), length-drop at text)

-- Lines joined, one after the other.
use Rattle.std.proofs.Common.{◌≡◌, ◌∙◌, ℕ, ◌+◌, ◌≤◌, ◌==◌, inl, inr, Bool, true, false, if◌then◌else◌, List, [], ◌∷◌, ◌++◌, length, take, drop, map, Some, None, unwrap_or, sym, ap, subst, arith, append_assoc}
use Rattle.std.proofs.lemmas.Bool.{cases_Bool}
use Rattle.std.proofs.lemmas.List.{length-append}
use Rattle.std.specs.List.{flat_map}
use Rattle.opgp_armor.specs.Text.{Line, lines}
use Rattle.opgp_document.proofs.Filling.{put_behind}
use Rattle.opgp_cleartext.specs.Cleartext.{joined_by}
use Rattle.opgp_cleartext.specs.Line.{behind_dash, is_blank, is_return, shown_of, strip_blank, unescaped_of, without_blanks, without_return}

-- ---- a line says no more octets than it has
one_blank : (b : Bool) (c : ℕ) → length (if b then [] else c ∷ []) ≤ 1
one_blank true c = omega arith
one_blank false c = omega arith

strip_few : (c : ℕ) (ds : List ℕ) → length (strip_blank c ds) ≤ 1 + length ds
strip_few c [] = one_blank (is_blank c) c
strip_few c (d ∷ ds) = omega arith

blanks_few : (l : List ℕ) → length (without_blanks l) ≤ length l
unfolding without_blanks
blanks_few [] = omega arith
blanks_few (c ∷ l) = omega (arith, strip_few c (without_blanks l), blanks_few l)

return_few : (l : Line) → length (without_return l) ≤ length l
unfolding without_return
return_few [] = omega arith
return_few (c ∷ []) = one_blank (is_return c) c
return_few (c ∷ d ∷ l) = omega (arith, return_few (d ∷ l))

choice_few : (b : Bool) (octets bare : List ℕ) → length octets ≤ length bare → length (unwrap_or (if b then Some octets else None) bare) ≤ length bare
choice_few true octets bare h = h
choice_few false octets bare h = omega arith

dash_few : (octets bare : List ℕ) → length octets ≤ length bare → length (unwrap_or (behind_dash octets) bare) ≤ length bare
dash_few [] bare h = omega arith
dash_few (c ∷ octets) bare h = choice_few (c == 32) octets bare (omega arith)

escaped_few : (bare : List ℕ) → length (unwrap_or (unescaped_of bare) bare) ≤ length bare
escaped_few [] = omega arith
escaped_few (c ∷ octets) = elim (cases_Bool (c == 45)) [
  | inl y ↦ rw y (dash_few octets (c ∷ octets) (omega arith))
  | inr n ↦ rw n (omega arith)
]

pub shown_few : (l : Line) → length (shown_of l) ≤ length l
shown_few l =
    omega (arith, blanks_few (unwrap_or (unescaped_of (without_return l)) (without_return l)), escaped_few (without_return l), return_few l)

-- ---- counted
pub counted_first : (between text : List ℕ) (next : ℕ) (l : Line) → lines text ≡ l ∷ lines (drop next text)
    → length (shown_of l) + length (flat_map (λ (m : List ℕ). between ++ m) (map shown_of (lines (drop next text)))) ≡ length (joined_by between (map shown_of (lines text)))
counted_first between text next l is =
    sym (ap (λ (ls : List Line). length (joined_by between (map shown_of ls))) is
    ∙ length-append (shown_of l) (flat_map (λ (m : List ℕ). between ++ m) (map shown_of (lines (drop next text)))))

pub counted_more : (between text : List ℕ) (at next count whole : ℕ) (l : Line) → lines (drop at text) ≡ l ∷ lines (drop next text)
    → count + length (flat_map (λ (m : List ℕ). between ++ m) (map shown_of (lines (drop at text)))) ≡ whole
    → (count + (length between + length (shown_of l))) + length (flat_map (λ (m : List ℕ). between ++ m) (map shown_of (lines (drop next text)))) ≡ whole
counted_more between text at next count whole l is h =
    let rest : List ℕ = flat_map (λ (m : List ℕ). between ++ m) (map shown_of (lines (drop next text))) in
    omega (
      arith,
      h,
      ap (λ (ls : List Line). length (flat_map (λ (m : List ℕ). between ++ m) (map shown_of ls))) is,
      length-append (between ++ shown_of l) rest,
      length-append between (shown_of l),
    )

-- ---- filled in
-- A table whose first `count` octets are a front; with what is to come it is the whole, and behind
-- it the table is the old one.
pub record Filled (old table : List ℕ) (count : ℕ) (coming whole : List ℕ) : Type 0 where
  pub front : List ℕ
  pub size : length front ≡ count
  pub all : front ++ coming ≡ whole
  pub is : table ≡ front ++ drop count old

pub put_one : (old table new : List ℕ) (count : ℕ) (x coming whole : List ℕ) → Filled old table count (x ++ coming) whole
    → new ≡ take count table ++ (x ++ drop (count + length x) table) → Filled old new (count + length x) coming whole
put_one old table new count x coming whole f made = record {
  front = f.front ++ x;
  size = omega (arith, length-append f.front x, f.size);
  all = append_assoc f.front x coming ∙ f.all;
  is = put_behind count (count + length x) f.front x old table new f.size (omega arith) f.is made;
}

pub put_line : (old table mid new between text shown : List ℕ) (at next count : ℕ) (l : Line) (whole : List ℕ) → lines (drop at text) ≡ l ∷ lines (drop next text) → shown ≡ shown_of l
    → Filled old table count (flat_map (λ (m : List ℕ). between ++ m) (map shown_of (lines (drop at text)))) whole
    → mid ≡ take count table ++ (between ++ drop (count + length between) table)
    → new ≡ take (count + length between) mid ++ (shown ++ drop (count + length between + length shown) mid)
    → Filled old new (count + length between + length shown) (flat_map (λ (m : List ℕ). between ++ m) (map shown_of (lines (drop next text)))) whole
put_line old table mid new between text shown at next count l whole is e f a b =
    let rest : List ℕ = flat_map (λ (m : List ℕ). between ++ m) (map shown_of (lines (drop next text))) in
    let here : Filled old table count (between ++ (shown ++ rest)) whole =
    subst (λ (x : List ℕ). Filled old table count x whole)
    (ap (λ (ls : List Line). flat_map (λ (m : List ℕ). between ++ m) (map shown_of ls)) is ∙ append_assoc between (shown_of l) rest
    ∙ ap (λ (x : List ℕ). between ++ (x ++ rest)) (sym e)) f in
    put_one old mid new (count + length between) shown rest whole (put_one old table mid count between (shown ++ rest) whole here a) b

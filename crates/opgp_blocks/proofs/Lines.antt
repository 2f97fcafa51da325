-- The line at a place of a text.
use Rattle.std.proofs.Common.{◌≡◌, ℕ, zero, suc, ◌+◌, ◌<◌, ◌==◌, true, false, List, [], ◌∷◌, length, take, drop, slice_index, refl, sym, ap, ◌∙◌, arith, inl, inr}
use Rattle.std.proofs.lemmas.Bool.{cases_Bool, eqb-true}
use Rattle.std.proofs.lemmas.List.{drop_all, drop-drop, length-take-le}
use Rattle.opgp_armor.specs.Cuts.{is_plain}
use Rattle.opgp_armor.specs.Text.{Line, lines, onto}
use Rattle.opgp_armor.proofs.Texts.{lines-cons, lines-feed, lines-nil}
use Rattle.opgp_blocks.specs.Line.{Shown, shown_at, shown_from, shown_lines}

plain_other : (c : ℕ) → (c == 10) ≡ false → is_plain c ≡ true
plain_other c n = rw n refl

-- nothing in front of this place is a line feed
abbrev pub NoneTill : ℕ → List ℕ → Type 0
NoneTill i o = (k : ℕ) → k < i → (slice_index o k == 10) ≡ true → ⊥

none_behind : (i x : ℕ) (o : List ℕ) → NoneTill (suc i) (x ∷ o) → NoneTill i o
none_behind i x o none = λ k l e. none (suc k) (omega arith) e

line_cut : (o : List ℕ) (i : ℕ) → i < length o → NoneTill i o → (slice_index o i == 10) ≡ true → lines o ≡ take i o ∷ lines (drop (suc i) o)
line_cut [] i lt none found = absurd (omega arith)
line_cut (x ∷ o) zero lt none found = ap (λ (v : ℕ). lines (v ∷ o)) (eqb-true x 10 found) ∙ lines-feed o
line_cut (x ∷ o) (suc i) lt none found = elim (cases_Bool (x == 10)) [
  | inl y ↦ absurd (none 0 (omega arith) y)
  | inr n ↦ lines-cons x o (plain_other x n) ∙ ap (onto x) (line_cut o i (omega arith) (none_behind i x o none) found)
]

line_last : (x : ℕ) (o : List ℕ) → NoneTill (length (x ∷ o)) (x ∷ o) → lines (x ∷ o) ≡ (x ∷ o) ∷ []
line_last x [] none = elim (cases_Bool (x == 10)) [
  | inl y ↦ absurd (none 0 (omega arith) y)
  | inr n ↦ lines-cons x [] (plain_other x n) ∙ ap (onto x) lines-nil
]
line_last x (y ∷ o) none = elim (cases_Bool (x == 10)) [
  | inl e ↦ absurd (none 0 (omega arith) e)
  | inr n ↦ lines-cons x (y ∷ o) (plain_other x n) ∙ ap (onto x) (line_last y o (none_behind (length (y ∷ o)) x (y ∷ o) none))
]

line_alone : (o : List ℕ) → (length o ≡ 0 → ⊥) → NoneTill (length o) o → lines o ≡ o ∷ []
line_alone [] some none = absurd (some refl)
line_alone (x ∷ o) some none = line_last x o none

line_none : (o : List ℕ) → length o ≡ 0 → lines o ≡ []
line_none [] e = lines-nil
line_none (x ∷ o) e = absurd (omega arith)

-- ---- from a place on
first_shown : (at next : ℕ) (l : Line) (ls : List Line) → next ≡ at + (length l + 1) → shown_lines at (l ∷ ls) ≡ shown_at at l ∷ shown_lines next ls
unfolding shown_lines
first_shown at next l ls e = ap (λ (n : ℕ). shown_at at l ∷ shown_lines n ls) (sym e)

last_shown : (at next : ℕ) (l : Line) → shown_lines at (l ∷ []) ≡ shown_at at l ∷ shown_lines next []
unfolding shown_lines
last_shown at next l = refl

none_shown : (at : ℕ) → shown_lines at [] ≡ []
unfolding shown_lines
none_shown at = refl

pub line_found : (text rest : List ℕ) (at size : ℕ) → rest ≡ drop at text → size < length rest → NoneTill size rest → (slice_index rest size == 10) ≡ true
    → shown_from at text ≡ shown_at at (take size rest) ∷ shown_from (at + size + 1) text
line_found text rest at size is lt none found =
    let e : at + suc size ≡ at + size + 1 = omega arith in
    let d : drop (suc size) rest ≡ drop (at + size + 1) text = ap (λ (o : List ℕ). drop (suc size) o) is ∙ drop-drop (suc size) at text ∙ ap (λ (k : ℕ). drop k text) e in
    let few : length (take size rest) ≡ size = length-take-le size rest (omega arith) in
    ap (λ (o : List ℕ). shown_lines at (lines o)) (sym is)
    ∙ ap (shown_lines at) (line_cut rest size lt none found ∙ ap (λ (o : List ℕ). take size rest ∷ lines o) d)
    ∙ first_shown at (at + size + 1) (take size rest) (lines (drop (at + size + 1) text)) (omega arith)

pub rest_found : (text rest : List ℕ) (at n : ℕ) → rest ≡ drop at text → n ≡ length text → (length rest ≡ 0 → ⊥) → NoneTill (length rest) rest
    → shown_from at text ≡ shown_at at rest ∷ shown_from n text
rest_found text rest at n is e some none =
    let behind : lines (drop n text) ≡ [] = ap lines (drop_all n text (omega arith)) ∙ lines-nil in
    ap (λ (o : List ℕ). shown_lines at (lines o)) (sym is) ∙ ap (shown_lines at) (line_alone rest some none)
    ∙ last_shown at n rest ∙ ap (λ (ls : List Line). shown_at at rest ∷ shown_lines n ls) (sym behind)

pub none_found : (text rest : List ℕ) (at : ℕ) → rest ≡ drop at text → length rest ≡ 0 → shown_from at text ≡ []
none_found text rest at is e = ap (λ (o : List ℕ). shown_lines at (lines o)) (sym is) ∙ ap (shown_lines at) (line_none rest e) ∙ none_shown at

-- the same, as a value of the code shows it
pub showing : (text : List ℕ) (at next next' : ℕ) (s t : Shown) → t ≡ s → next' ≡ next → shown_from at text ≡ s ∷ shown_from next text → shown_from at text ≡ t ∷ shown_from next' text
showing text at next next' s t e f h = h ∙ ap (λ (u : Shown). u ∷ shown_from next text) (sym e) ∙ ap (λ (n : ℕ). t ∷ shown_from n text) (sym f)

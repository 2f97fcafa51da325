-- What is behind the first lines of a text.
use Rattle.std.proofs.Common.{◌≡◌, ◌∙◌, ℕ, ◌+◌, ◌==◌, false, List, [], ◌∷◌, ◌++◌, length, drop, suc, true, refl, sym, ap, inl, inr, arith}
use Rattle.std.proofs.lemmas.Bool.{cases_Bool, eqb-true}
use Rattle.std.proofs.lemmas.List.{drop-drop}
use Rattle.opgp_armor.specs.Cuts.{is_plain}
use Rattle.opgp_armor.specs.Text.{Line, lines, offset, onto}
use Rattle.opgp_armor.proofs.Texts.{lines-cons, lines-feed, lines-nil}
use Rattle.opgp_cleartext.specs.Cleartext.{HasCleartext, IsSignatureLine, IsText}

-- a first line behind which there is another one ends in a line feed
record Ended (text : List ℕ) (l m : Line) (ms : List Line) : Type 0 where
  rest : List ℕ
  is : lines rest ≡ m ∷ ms
  dropped : drop (length l + 1) text ≡ rest

other_plain : (c : ℕ) → (c == 10) ≡ false → is_plain c ≡ true
other_plain c n = rw n refl

ended_on : (c : ℕ) (text : List ℕ) (ls : List Line) (l m : Line) (ms : List Line) → lines text ≡ ls → onto c ls ≡ l ∷ m ∷ ms
    → ((k : Line) → lines text ≡ k ∷ m ∷ ms → Ended text k m ms) → Ended (c ∷ text) l m ms
ended_on c text [] l m ms e h further = let g : [] ≡ m ∷ ms = cc in absurd cc
ended_on c text (k ∷ ks) l m ms e h further =
    let first : c ∷ k ≡ l = cc in
    let rest : ks ≡ m ∷ ms = cc in
    let t = further k (e ∙ ap (λ (x : List Line). k ∷ x) rest) in
    let size : length l + 1 ≡ suc (length k + 1) = omega (arith, ap (length {A = ℕ}) first) in
    record { rest = t.rest; is = t.is; dropped = ap (λ (n : ℕ). drop n (c ∷ text)) size ∙ t.dropped }

ended : (text : List ℕ) (l m : Line) (ms : List Line) → lines text ≡ l ∷ m ∷ ms → Ended text l m ms
ended [] l m ms e = let g : [] ≡ l ∷ m ∷ ms = sym lines-nil ∙ e in absurd cc
ended (c ∷ text) l m ms e = elim (cases_Bool (c == 10)) [
  | inl y ↦
      let f : [] ∷ lines text ≡ l ∷ m ∷ ms = sym (ap (λ (v : ℕ). lines (v ∷ text)) (eqb-true c 10 y) ∙ lines-feed text) ∙ e in
      let first : [] ≡ l = cc in
      let rest : lines text ≡ m ∷ ms = cc in
      record { rest = text; is = rest; dropped = ap (λ (n : Line). drop (length n + 1) (c ∷ text)) (sym first) }
  | inr n ↦ ended_on c text (lines text) l m ms refl (sym (lines-cons c text (other_plain c n)) ∙ e) (λ k is. ended text k m ms is)
]

lines_behind : (front : List Line) (text : List ℕ) (m : Line) (ms : List Line) → lines text ≡ front ++ m ∷ ms → lines (drop (offset front) text) ≡ m ∷ ms
lines_behind [] text m ms e = e
lines_behind (l ∷ []) text m ms e =
    let t = ended text l m ms e in
    let size : offset (l ∷ []) ≡ length l + 1 = omega arith in
    ap (λ (n : ℕ). lines (drop n text)) size ∙ ap lines t.dropped ∙ t.is
lines_behind (l ∷ k ∷ front) text m ms e =
    let t = ended text l k (front ++ m ∷ ms) e in
    let split : drop (offset (l ∷ k ∷ front)) text ≡ drop (offset (k ∷ front)) t.rest =
    sym (drop-drop (offset (k ∷ front)) (length l + 1) text) ∙ ap (λ (o : List ℕ). drop (offset (k ∷ front)) o) t.dropped in
    ap lines split ∙ lines_behind (k ∷ front) t.rest m ms t.is

pub record Behind (most : ℕ) (text : List ℕ) (d : List (List ℕ)) (r : List ℕ) : Type 0 where
  pub front : List Line
  pub signature : Line
  pub more : List Line
  pub is_text : IsText most front d
  pub all : lines text ≡ front ++ lines r
  pub rest : lines r ≡ signature ∷ more
  pub is_signature : IsSignatureLine most signature

pub behind : (most : ℕ) (text : List ℕ) (d : List (List ℕ)) (r : List ℕ) → HasCleartext most text d r → Behind most text d r
behind most text d r h =
    let is : lines r ≡ h.signature ∷ h.more = ap lines h.rest_is ∙ lines_behind h.front text h.signature h.more h.are in
    record {
      front = h.front;
      signature = h.signature;
      more = h.more;
      is_text = h.is_text;
      all = h.are ∙ ap (λ (ls : List Line). h.front ++ ls) (sym is);
      rest = is;
      is_signature = h.is_signature;
    }

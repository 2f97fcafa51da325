-- Lines of texts, and the text of lines.
use Rattle.std.proofs.Common.{◌≡◌, ℕ, ◌<◌, ◌==◌, true, false, List, [], ◌∷◌, ◌++◌, refl, sym, ap, ◌∙◌, arith, inl, inr, subst}
use Rattle.std.proofs.lemmas.List.{append_assoc}
use Rattle.std.proofs.lemmas.Bool.{cases_Bool, eqb-true}
use Rattle.std.specs.List.{list_all, AllByRecursion}
use Rattle.opgp_armor.proofs.Octets.{AreOctets}
use Rattle.opgp_armor.specs.Cuts.{is_plain}
use Rattle.opgp_armor.specs.Text.{Line, lines, onto}
use Rattle.opgp_armor.specs.Written.{text_of}
use Rattle.opgp_armor.proofs.DataLine.{octets-append}

-- octets without a line feed
pub record IsLine (l : Line) : Type 0 where
  pub octets : AreOctets l
  pub plain : list_all is_plain l ≡ true

pub lines-feed : (text : List ℕ) → lines (10 ∷ text) ≡ [] ∷ lines text
unfolding lines
lines-feed text = refl

pub lines-cons : (c : ℕ) (text : List ℕ) → is_plain c ≡ true → lines (c ∷ text) ≡ onto c (lines text)
unfolding lines
lines-cons c text h = elim (cases_Bool (c == 10)) [
  | inl y ↦ cc (rw y at h)
  | inr n ↦ rw n refl
]

pub lines-line : (l : Line) (text : List ℕ) → list_all is_plain l ≡ true → lines (l ++ 10 ∷ text) ≡ l ∷ lines text
lines-line [] text h = lines-feed text
lines-line (c ∷ l) text h = elim (cases_Bool (is_plain c)) [
  | inl y ↦ lines-cons c (l ++ 10 ∷ text) y ∙ ap (onto c) (lines-line l text (rw y at h))
  | inr n ↦ cc (rw n at h)
]

pub lines-nil : lines [] ≡ []
unfolding lines
lines-nil = refl

pub lines-text_of : (ls : List Line) → AllByRecursion IsLine ls → lines (text_of ls) ≡ ls
lines-text_of [] are = lines-nil
lines-text_of (l ∷ ls) are =
    ap lines (append_assoc l (10 ∷ []) (text_of ls)) ∙ lines-line l (text_of ls) are.0.plain ∙ ap (λ (v : List Line). l ∷ v) (lines-text_of ls are.1)

abbrev pub IsPlain : Line → Type 0
IsPlain l = list_all is_plain l ≡ true

-- the same of lines that may hold any numbers
pub lines-text_plain : (ls : List Line) → AllByRecursion IsPlain ls → lines (text_of ls) ≡ ls
lines-text_plain [] are = lines-nil
lines-text_plain (l ∷ ls) are =
    ap lines (append_assoc l (10 ∷ []) (text_of ls)) ∙ lines-line l (text_of ls) are.0 ∙ ap (λ (v : List Line). l ∷ v) (lines-text_plain ls are.1)

pub octets-text_of : (ls : List Line) → AllByRecursion IsLine ls → AreOctets (text_of ls)
octets-text_of [] are = tt
octets-text_of (l ∷ ls) are = octets-append (l ++ 10 ∷ []) (text_of ls) (octets-append l (10 ∷ []) are.0.octets (omega arith, tt)) (octets-text_of ls are.1)

onto_lines : (c : ℕ) (ls : List Line) → c < 256 → is_plain c ≡ true → AllByRecursion IsLine ls → AllByRecursion IsLine (onto c ls)
onto_lines c [] o p are = (record { octets = (o, tt); plain = rw p refl }, tt)
onto_lines c (l ∷ ls) o p are = (record { octets = (o, are.0.octets); plain = rw p are.0.plain }, are.1)

not_false_plain : (c : ℕ) → (c == 10) ≡ false → is_plain c ≡ true
not_false_plain c h = rw h refl

pub are_lines : (text : List ℕ) → AreOctets text → AllByRecursion IsLine (lines text)
are_lines [] h = subst (AllByRecursion IsLine) (sym lines-nil) tt
are_lines (c ∷ text) h = elim (cases_Bool (c == 10)) [
  | inl y ↦
      let e : lines (c ∷ text) ≡ [] ∷ lines text = ap (λ (v : ℕ). lines (v ∷ text)) (eqb-true c 10 y) ∙ lines-feed text in
      subst (AllByRecursion IsLine) (sym e) (record { octets = tt; plain = refl }, are_lines text h.1)
  | inr n ↦
      let p = not_false_plain c n in
      subst (AllByRecursion IsLine) (sym (lines-cons c text p)) (onto_lines c (lines text) h.0 p (are_lines text h.1))
]

pub recursion_front : {X : Type 0} (P : X → Type 0) (a b : List X) → AllByRecursion P (a ++ b) → AllByRecursion P a
recursion_front P [] b h = tt
recursion_front P (x ∷ a) b h = (h.0, recursion_front P a b h.1)

-- The document that is handed out, and what its signatures hash.
use Rattle.std.proofs.Common.{◌≡◌, ◌≢◌, ◌∙◌, ℕ, true, false, List, [], ◌∷◌, ◌++◌, refl, sym, ap, subst, inl, inr, append_assoc, append-nil, true≢false}
use Rattle.std.proofs.lemmas.Bool.{cases_Bool}
use Rattle.std.specs.List.{AllByRecursion, AllZip, flat_map}
use Rattle.opgp_armor.specs.Cuts.{is_plain}
use Rattle.opgp_armor.specs.Text.{Line, lines}
use Rattle.opgp_armor.proofs.Texts.{recursion_front, IsPlain}
use Rattle.opgp_document.specs.Text as document
use Rattle.opgp_cleartext.specs.Cleartext.{HasCleartext, Says, joined, joined_canonically}
use Rattle.opgp_cleartext.specs.Line.{SaysLine, has_return, is_return, without_return}
use Rattle.opgp_cleartext.proofs.Passing.{plain_lines}

-- ---- line feeds
other_plain : (c : ℕ) → is_plain c ≡ true → c ≢ 10
other_plain c p = λ e. true≢false (sym p ∙ ap is_plain e)

plain_front : (a b : List ℕ) → IsPlain (a ++ b) → IsPlain a
plain_front [] b p = refl
plain_front (c ∷ a) b p = elim (cases_Bool (is_plain c)) [
  | inl y ↦ rw y (plain_front a b (rw y at p))
  | inr n ↦ let g = rw n at p in absurd cc
]

plain_behind : (c : ℕ) (o : List ℕ) → IsPlain (c ∷ o) → IsPlain o
plain_behind c o p = elim (cases_Bool (is_plain c)) [
  | inl y ↦ rw y at p
  | inr n ↦ let g = rw n at p in absurd cc
]

plain_onto : (c : ℕ) (o r : List ℕ) → IsPlain (c ∷ o) → IsPlain r → IsPlain (c ∷ r)
plain_onto c o r p q = elim (cases_Bool (is_plain c)) [
  | inl y ↦ rw y q
  | inr n ↦ let g = rw n at p in absurd cc
]

plain_bare : (l : List ℕ) → IsPlain l → IsPlain (without_return l)
unfolding without_return
plain_bare [] p = refl
plain_bare (c ∷ []) p = elim (cases_Bool (is_return c)) [
  | inl y ↦ rw y refl
  | inr n ↦ rw n p
]
plain_bare (c ∷ d ∷ l) p = plain_onto c (d ∷ l) (without_return (d ∷ l)) p (plain_bare (d ∷ l) (plain_behind c (d ∷ l) p))

plain_shown : (bare shown : List ℕ) → SaysLine bare shown → IsPlain bare → IsPlain shown
plain_shown bare shown s p = elim s.spelled [
  | inl e ↦ plain_front shown s.blanks (plain_behind 32 (shown ++ s.blanks) (plain_behind 45 (32 ∷ (shown ++ s.blanks)) (subst IsPlain e p)))
  | inr e ↦ plain_front shown s.blanks (subst IsPlain e.0 p)
]

-- ---- and carriage returns
both : (o : List ℕ) → IsPlain o → has_return o ≡ false → document.IsPlain o
both [] p r = tt
both (c ∷ o) p r = elim (cases_Bool (is_plain c)) [
  | inl y ↦ elim (cases_Bool (is_return c)) [
    | inl t ↦ let g = rw t at r in absurd cc
    | inr n ↦ ((λ e. true≢false (sym (ap is_return e) ∙ n), other_plain c y), both o (rw y at p) (rw n at r))
  ]
  | inr n ↦ let g = rw n at p in absurd cc
]

abbrev ArePlain : List (List ℕ) → Type 0
ArePlain ls = AllByRecursion document.IsPlain ls

said_plain : (most : ℕ) (ls : List Line) (d : List (List ℕ)) → AllZip (Says most) ls d → AllByRecursion IsPlain ls → ArePlain d
said_plain most [] [] z p = tt
said_plain most [] (s ∷ d) z p = absurd z
said_plain most (l ∷ ls) [] z p = absurd z
said_plain most (l ∷ ls) (s ∷ d) z p =
    let says = z.0.says in
    (both s (plain_shown (without_return l) s says (plain_bare l p.0)) says.clean, said_plain most ls d z.1 p.1)

recursion_back : {X : Type 0} (P : X → Type 0) (a b : List X) → AllByRecursion P (a ++ b) → AllByRecursion P b
recursion_back P [] b h = h
recursion_back P (x ∷ a) b h = recursion_back P a b h.1

document_plain : (most : ℕ) (text : List ℕ) (d : List (List ℕ)) (r : List ℕ) → HasCleartext most text d r → ArePlain d
document_plain most text d r h =
    let all : AllByRecursion IsPlain (lines text) = plain_lines text in
    let front : AllByRecursion IsPlain h.front = recursion_front IsPlain h.front (h.signature ∷ h.more) (subst (AllByRecursion IsPlain) h.are all) in
    let t = h.is_text in
    let behind = recursion_back IsPlain t.head (t.gap ∷ t.said) (subst (AllByRecursion IsPlain) t.are front) in
    said_plain most t.said d t.are_said behind.1

-- ---- lines joined
spread : (l : List ℕ) (ls : List (List ℕ)) → document.IsPlain l → ArePlain ls
    → document.HasText (l ++ flat_map (λ (m : List ℕ). (10 ∷ []) ++ m) ls) (l ++ flat_map (λ (m : List ℕ). (13 ∷ 10 ∷ []) ++ m) ls)
spread l [] p all = record {
  lines = [];
  last = l;
  has_lines = record { each = tt; rest = p; whole = append-nil l };
  made = append-nil l;
}
spread l (m ∷ ls) p all =
    let t = spread m ls all.0 all.1 in
    record {
      lines = record { octets = l; has_cr = false } ∷ t.lines;
      last = t.last;
      has_lines = record {
        each = (p, t.has_lines.each);
        rest = t.has_lines.rest;
        whole = ap (λ (o : List ℕ). l ++ 10 ∷ o) t.has_lines.whole ∙ sym (append_assoc l (10 ∷ document.as_they_are t.lines) t.last);
      };
      made = ap (λ (o : List ℕ). l ++ 13 ∷ 10 ∷ o) t.made ∙ sym (append_assoc l (13 ∷ 10 ∷ document.canonical_lines t.lines) t.last);
    }

text_of_document : (d : List (List ℕ)) → ArePlain d → document.HasText (joined d) (joined_canonically d)
text_of_document [] all = record { lines = []; last = []; has_lines = record { each = tt; rest = tt; whole = refl }; made = refl }
text_of_document (l ∷ ls) all = spread l ls all.0 all.1

pub handed_out : (most : ℕ) (text : List ℕ) (d : List (List ℕ)) (r : List ℕ) → HasCleartext most text d r → document.HasText (joined d) (joined_canonically d)
handed_out most text d r h = text_of_document d (document_plain most text d r h)

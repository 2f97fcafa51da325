-- Canonical text, octet after octet and as lines.
use Rattle.std.proofs.Common.{◌≡◌, ◌≢◌, ◌==◌, ℕ, Bool, true, false, not, ◌&&◌, ◌||◌, true≢false}
use Rattle.std.proofs.Common.{List, [], ◌∷◌, ◌++◌, map, refl, sym, ap, subst, ◌∙◌, append_assoc, append-nil, inl, inr}
use Rattle.std.specs.List.{AllByRecursion}
use Rattle.std.specs.Prelude.{if◌then◌else◌}
use Rattle.std.proofs.lemmas.Bool.{cases_eq, ne_eqb, eq-eqb}
use Rattle.std.proofs.lemmas.List.{same_from_push}
use Rattle.opgp_document.specs.Text.{Line, IsPlain, end_of, as_they_are, canonical_lines, HasLines, HasText}
use Rattle.opgp_document.specs.Text.{octet_as_text, to_text, ends_cr, has_stray}

or_assoc : (x y z : Bool) → (x || (y || z)) ≡ ((x || y) || z)
or_assoc true y z = refl
or_assoc false y z = refl

-- ---- octets behind others
pub text_append : (b : Bool) (d e : List ℕ) → to_text b (d ++ e) ≡ to_text b d ++ to_text (ends_cr b d) e
text_append b [] e = refl
text_append b (c ∷ d) e =
    ap (λ (t : List ℕ). octet_as_text b c ++ t) (text_append (c == 13) d e)
    ∙ sym (append_assoc (octet_as_text b c) (to_text (c == 13) d) (to_text (ends_cr (c == 13) d) e))

pub ends_append : (b : Bool) (d e : List ℕ) → ends_cr b (d ++ e) ≡ ends_cr (ends_cr b d) e
ends_append b [] e = refl
ends_append b (c ∷ d) e = ends_append (c == 13) d e

pub stray_append : (b : Bool) (d e : List ℕ) → has_stray b (d ++ e) ≡ (has_stray b d || has_stray (ends_cr b d) e)
stray_append b [] e = refl
stray_append b (c ∷ d) e =
    ap (λ (t : Bool). (b && not (c == 10)) || t) (stray_append (c == 13) d e)
    ∙ or_assoc (b && not (c == 10)) (has_stray (c == 13) d) (has_stray (ends_cr (c == 13) d) e)

-- ---- a line's octets, and its end
pub plain_text : (o e : List ℕ) → IsPlain o → to_text false (o ++ e) ≡ o ++ to_text false e
plain_text [] e p = refl
plain_text (c ∷ o) e p =
    let cr : (c == 13) ≡ false = ne_eqb c 13 p.0.0 in
    let lf : (c == 10) ≡ false = ne_eqb c 10 p.0.1 in
    rw (lf, cr) (ap (λ (t : List ℕ). c ∷ t) (plain_text o e p.1))

plain_ends : (o e : List ℕ) → IsPlain o → ends_cr false (o ++ e) ≡ ends_cr false e
plain_ends [] e p = refl
plain_ends (c ∷ o) e p =
    let cr : (c == 13) ≡ false = ne_eqb c 13 p.0.0 in
    ap (λ (b : Bool). ends_cr b (o ++ e)) cr ∙ plain_ends o e p.1

plain_stray : (o e : List ℕ) → IsPlain o → has_stray false (o ++ e) ≡ has_stray false e
plain_stray [] e p = refl
plain_stray (c ∷ o) e p =
    let cr : (c == 13) ≡ false = ne_eqb c 13 p.0.0 in
    rw cr (plain_stray o e p.1)

end_text : (k : Bool) (e : List ℕ) → to_text false (end_of k ++ e) ≡ 13 ∷ 10 ∷ to_text false e
end_text true e = refl
end_text false e = refl

end_ends : (k : Bool) (e : List ℕ) → ends_cr false (end_of k ++ e) ≡ ends_cr false e
end_ends true e = refl
end_ends false e = refl

end_stray : (k : Bool) (e : List ℕ) → has_stray false (end_of k ++ e) ≡ has_stray false e
end_stray true e = refl
end_stray false e = refl

-- ---- lines
abbrev AreLines : List Line → Type 0
AreLines ls = AllByRecursion (λ (l : Line). IsPlain l.octets) ls

regrouped : (o e a x : List ℕ) → (o ++ (e ++ a)) ++ x ≡ o ++ (e ++ (a ++ x))
regrouped o e a x = append_assoc o (e ++ a) x ∙ ap (λ (t : List ℕ). o ++ t) (append_assoc e a x)

pub lines_text : (ls : List Line) (last : List ℕ) → AreLines ls → IsPlain last → to_text false (as_they_are ls ++ last) ≡ canonical_lines ls ++ last
lines_text [] last e p = rw (append-nil last) at (plain_text last [] p)
lines_text (l ∷ ls) last e p =
    ap (λ (d : List ℕ). to_text false d) (regrouped l.octets (end_of l.has_cr) (as_they_are ls) last)
    ∙ plain_text l.octets (end_of l.has_cr ++ (as_they_are ls ++ last)) e.0
    ∙ ap (λ (t : List ℕ). l.octets ++ t) (end_text l.has_cr (as_they_are ls ++ last) ∙ ap (λ (t : List ℕ). 13 ∷ 10 ∷ t) (lines_text ls last e.1 p))
    ∙ sym (append_assoc l.octets (13 ∷ 10 ∷ canonical_lines ls) last)

pub lines_end : (ls : List Line) (last : List ℕ) → AreLines ls → IsPlain last → ends_cr false (as_they_are ls ++ last) ≡ false
lines_end [] last e p = rw (append-nil last) at (plain_ends last [] p)
lines_end (l ∷ ls) last e p =
    ap (λ (d : List ℕ). ends_cr false d) (regrouped l.octets (end_of l.has_cr) (as_they_are ls) last)
    ∙ plain_ends l.octets (end_of l.has_cr ++ (as_they_are ls ++ last)) e.0
    ∙ end_ends l.has_cr (as_they_are ls ++ last) ∙ lines_end ls last e.1 p

pub lines_stray : (ls : List Line) (last : List ℕ) → AreLines ls → IsPlain last → has_stray false (as_they_are ls ++ last) ≡ false
lines_stray [] last e p = rw (append-nil last) at (plain_stray last [] p)
lines_stray (l ∷ ls) last e p =
    ap (λ (d : List ℕ). has_stray false d) (regrouped l.octets (end_of l.has_cr) (as_they_are ls) last)
    ∙ plain_stray l.octets (end_of l.has_cr ++ (as_they_are ls ++ last)) e.0
    ∙ end_stray l.has_cr (as_they_are ls ++ last) ∙ lines_stray ls last e.1 p

-- a document that has a text has no stray carriage return, and the text is the one that is made
pub text_is_made : (d t : List ℕ) → HasText d t → ((has_stray false d || ends_cr false d) ≡ false) × (t ≡ to_text false d)
text_is_made d t h =
    let w = h.has_lines in
    let stray : has_stray false d ≡ false = ap (λ (x : List ℕ). has_stray false x) w.whole ∙ lines_stray h.lines h.last w.each w.rest in
    let ends : ends_cr false d ≡ false = ap (λ (x : List ℕ). ends_cr false x) w.whole ∙ lines_end h.lines h.last w.each w.rest in
    let made : to_text false d ≡ canonical_lines h.lines ++ h.last = ap (λ (x : List ℕ). to_text false x) w.whole ∙ lines_text h.lines h.last w.each w.rest in
    (rw (stray, ends) refl, h.made ∙ sym made)

-- ---- the lines of a document
pub record Read (d : List ℕ) : Type 0 where
  pub lines : List Line
  pub last : List ℕ
  pub has : HasLines d lines last

-- an octet of a line in front of lines
onto : (c : ℕ) (d : List ℕ) → (c ≢ 13) × (c ≢ 10) → (ls : List Line) (last : List ℕ) → HasLines d ls last → Read (c ∷ d)
onto c d p [] last h = record {
  lines = [];
  last = c ∷ last;
  has = record { each = h.each; rest = (p, h.rest); whole = ap (λ (t : List ℕ). c ∷ t) h.whole };
}
onto c d p (l ∷ ls) last h = record {
  lines = record { octets = c ∷ l.octets; has_cr = l.has_cr } ∷ ls;
  last = last;
  has = record { each = ((p, h.each.0), h.each.1); rest = h.rest; whole = ap (λ (t : List ℕ). c ∷ t) h.whole };
}

-- an empty line in front of lines
ended : (k : Bool) (d : List ℕ) → Read d → Read (end_of k ++ d)
ended k d r = record {
  lines = record { octets = []; has_cr = k } ∷ r.lines;
  last = r.last;
  has = record {
    each = (tt, r.has.each);
    rest = r.has.rest;
    whole = ap (λ (t : List ℕ). end_of k ++ t) r.has.whole ∙ sym (append_assoc (end_of k) (as_they_are r.lines) r.last);
  };
}

-- behind a carriage return or not
abbrev pub ReadBehind : Bool → List ℕ → Type 0
ReadBehind true d = Read (13 ∷ d)
ReadBehind false d = Read d

pub reading : (b : Bool) (d : List ℕ) → has_stray b d ≡ false → ends_cr b d ≡ false → ReadBehind b d
reading true [] s e = absurd (true≢false e)
reading false [] s e = record { lines = []; last = []; has = record { each = tt; rest = tt; whole = refl } }
reading true (c ∷ d) s e = elim (cases_eq c 10) [
  | inl p ↦
      let r = reading false d (rw p at s) (rw p at e) in
      subst (λ (x : ℕ). Read (13 ∷ x ∷ d)) (sym p) (ended true d r)
  | inr n ↦
      let lf : (c == 10) ≡ false = ne_eqb c 10 n in
      absurd (true≢false (rw lf at s))
]
reading false (c ∷ d) s e = elim (cases_eq c 13) [
  | inl p ↦
      let cr : (c == 13) ≡ true = eq-eqb c 13 p in
      subst (λ (x : ℕ). Read (x ∷ d)) (sym p) (reading true d (rw cr at s) (rw cr at e))
  | inr n ↦
      let cr : (c == 13) ≡ false = ne_eqb c 13 n in
      let r = reading false d (rw cr at s) (rw cr at e) in
      elim (cases_eq c 10) [
        | inl p ↦ subst (λ (x : ℕ). Read (x ∷ d)) (sym p) (ended false d r)
        | inr m ↦ onto c d (n, m) r.lines r.last r.has
      ]
]

pub made_is_text : (d : List ℕ) → has_stray false d ≡ false → ends_cr false d ≡ false → HasText d (to_text false d)
made_is_text d s e =
    let r = reading false d s e in
    record {
      lines = r.lines;
      last = r.last;
      has_lines = r.has;
      made = ap (λ (x : List ℕ). to_text false x) r.has.whole ∙ lines_text r.lines r.last r.has.each r.has.rest;
    }

-- ---- a canonical text again
abbrev with_cr : List Line → List Line
with_cr [] = []
with_cr (l ∷ ls) = record { octets = l.octets; has_cr = true } ∷ with_cr ls

as_with_cr : (ls : List Line) → as_they_are (with_cr ls) ≡ canonical_lines ls
as_with_cr [] = refl
as_with_cr (l ∷ ls) = ap (λ (t : List ℕ). l.octets ++ (13 ∷ 10 ∷ t)) (as_with_cr ls)

canonical_with_cr : (ls : List Line) → canonical_lines (with_cr ls) ≡ canonical_lines ls
canonical_with_cr [] = refl
canonical_with_cr (l ∷ ls) = ap (λ (t : List ℕ). l.octets ++ (13 ∷ 10 ∷ t)) (canonical_with_cr ls)

each_with_cr : (ls : List Line) → AreLines ls → AreLines (with_cr ls)
each_with_cr [] e = tt
each_with_cr (l ∷ ls) e = (e.0, each_with_cr ls e.1)

pub again : (d t : List ℕ) → HasText d t → HasText t t
again d t h = record {
  lines = with_cr h.lines;
  last = h.last;
  has_lines = record {
    each = each_with_cr h.lines h.has_lines.each;
    rest = h.has_lines.rest;
    whole = h.made ∙ ap (λ (x : List ℕ). x ++ h.last) (sym (as_with_cr h.lines));
  };
  made = h.made ∙ ap (λ (x : List ℕ). x ++ h.last) (sym (canonical_with_cr h.lines));
}

-- ---- the lines that a canonical text says
abbrev put : ℕ → List (List ℕ) → List (List ℕ)
put c [] = (c ∷ []) ∷ []
put c (l ∷ ls) = (c ∷ l) ∷ ls

-- cut behind each line feed, without carriage returns
abbrev cut : List ℕ → List (List ℕ)
cut [] = [] ∷ []
cut (c ∷ d) = if c == 10 then [] ∷ cut d else (if c == 13 then cut d else put c (cut d))

abbrev put_all : List ℕ → List (List ℕ) → List (List ℕ)
put_all [] ls = ls
put_all (c ∷ o) ls = put c (put_all o ls)

plain_cut : (o e : List ℕ) → IsPlain o → cut (o ++ e) ≡ put_all o (cut e)
plain_cut [] e p = refl
plain_cut (c ∷ o) e p =
    let cr : (c == 13) ≡ false = ne_eqb c 13 p.0.0 in
    let lf : (c == 10) ≡ false = ne_eqb c 10 p.0.1 in
    rw (lf, cr) (ap (λ (t : List (List ℕ)). put c t) (plain_cut o e p.1))

put_one : (o : List ℕ) (ls : List (List ℕ)) → put_all o ([] ∷ ls) ≡ o ∷ ls
put_one [] ls = refl
put_one (c ∷ o) ls = ap (λ (t : List (List ℕ)). put c t) (put_one o ls)

cut_last : (o : List ℕ) → IsPlain o → cut o ≡ o ∷ []
cut_last o p = ap (λ (t : List ℕ). cut t) (sym (append-nil o)) ∙ plain_cut o [] p ∙ put_one o []

-- of each line its octets, and what is behind the last line end
abbrev octets_in : List Line → List ℕ → List (List ℕ)
octets_in ls last = map (λ (l : Line). l.octets) ls ++ (last ∷ [])

cut_text : (ls : List Line) (last : List ℕ) → AreLines ls → IsPlain last → cut (canonical_lines ls ++ last) ≡ octets_in ls last
cut_text [] last e p = cut_last last p
cut_text (l ∷ ls) last e p =
    ap (λ (t : List ℕ). cut t) (append_assoc l.octets (13 ∷ 10 ∷ canonical_lines ls) last)
    ∙ plain_cut l.octets (13 ∷ 10 ∷ (canonical_lines ls ++ last)) e.0
    ∙ put_one l.octets (cut (canonical_lines ls ++ last))
    ∙ ap (λ (t : List (List ℕ)). l.octets ∷ t) (cut_text ls last e.1 p)

pub same_lines : (d e : List ℕ) (ls ms : List Line) (x y : List ℕ) → HasLines d ls x → HasLines e ms y
    → canonical_lines ls ++ x ≡ canonical_lines ms ++ y
    → (map (λ (l : Line). l.octets) ls ≡ map (λ (l : Line). l.octets) ms) × (x ≡ y)
same_lines d e ls ms x y h k same =
    same_from_push (map (λ (l : Line). l.octets) ls) (map (λ (l : Line). l.octets) ms) x y
    (sym (cut_text ls x h.each h.rest) ∙ ap (λ (t : List ℕ). cut t) same ∙ cut_text ms y k.each k.rest)

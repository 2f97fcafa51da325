-- The place of the first stray carriage return.
use Rattle.std.proofs.Common.{◌≡◌, ◌≤◌, ◌^◌, ◌⊎◌, ◌==◌, ℕ, suc, ◌+◌, ◌-◌, Bool, true, false, not, ◌&&◌, ◌||◌, List, [], ◌∷◌, ◌++◌, length, get_or, true≢false}
use Rattle.std.proofs.Common.{refl, sym, ap, subst, ◌∙◌, arith, append_assoc, append-nil, length-append, eqb-true, inl, inr}
use Rattle.std.proofs.lemmas.Bool.{and_parts, cases_Bool, eq-eqb}
use Rattle.opgp_document.specs.CanonicalText.{TellsStray}
use Rattle.opgp_document.specs.Text.{HasText, IsStrayAt, before_stray, ends_cr, has_stray, to_text}
use Rattle.opgp_document.proofs.Given.{both_false}
use Rattle.opgp_document.proofs.Text.{ends_append, made_is_text, reading, stray_append, text_is_made, lines_stray, lines_end}

pub or_false : (x y : Bool) → x ≡ false → y ≡ false → (x || y) ≡ false
or_false x y p q = rw (p, q) refl

-- ---- octets that end in a carriage return
record Cut (b : Bool) (d : List ℕ) : Type 0 where
  front : List ℕ
  whole : d ≡ front ++ (13 ∷ [])
  clean : has_stray b front ≡ false
  ends : ends_cr b front ≡ false

not_behind : (b : Bool) (c : ℕ) → ((b && not (c == 10)) || false) ≡ false → c ≡ 13 → b ≡ false
not_behind true c s cr = absurd (true≢false (rw cr at s))
not_behind false c s cr = refl

cut_return : (b : Bool) (c : ℕ) (d : List ℕ) → has_stray b (c ∷ d) ≡ false → ends_cr b (c ∷ d) ≡ true → Cut b (c ∷ d)
cut_return b c [] s e =
    let cr : c ≡ 13 = eqb-true c 13 e in
    record { front = []; whole = ap (λ (x : ℕ). x ∷ []) cr; clean = refl; ends = not_behind b c s cr }
cut_return b c (x ∷ d) s e =
    let p = both_false (b && not (c == 10)) (has_stray (c == 13) (x ∷ d)) s in
    let r = cut_return (c == 13) x d p.1 e in
    record {
      front = c ∷ r.front;
      whole = ap (λ (t : List ℕ). c ∷ t) r.whole;
      clean = or_false (b && not (c == 10)) (has_stray (c == 13) r.front) p.0 r.clean;
      ends = r.ends;
    }

-- the last one is stray, if no line feed comes behind it
pub is_stray : (d rest : List ℕ) → has_stray false d ≡ false → ends_cr false d ≡ true → ((more : List ℕ) → rest ≡ 10 ∷ more → ⊥)
    → IsStrayAt (d ++ rest) (length d - 1)
is_stray [] rest s e u = absurd (true≢false (sym e))
is_stray (c ∷ d) rest s e u =
    let k = cut_return false c d s e in
    let l = reading false k.front k.clean k.ends in
    record {
      front = k.front;
      lines = l.lines;
      last = l.last;
      has_lines = l.has;
      rest = rest;
      whole = ap (λ (t : List ℕ). t ++ rest) k.whole ∙ append_assoc k.front (13 ∷ []) rest;
      unlike = u;
      at = omega (arith, ap (λ (t : List ℕ). length t) k.whole, length-append k.front (13 ∷ []));
    }

-- ---- the octet behind the first stray one
record Found (b : Bool) (o : List ℕ) (n : ℕ) : Type 0 where
  front : List ℕ
  next : ℕ
  rest : List ℕ
  whole : o ≡ front ++ (next ∷ rest)
  clean : has_stray b front ≡ false
  ends : ends_cr b front ≡ true
  unlike : next ≡ 10 → ⊥
  at : n ≡ length front

no_feed : (c : ℕ) → not (c == 10) ≡ true → c ≡ 10 → ⊥
no_feed c h e =
    let q : (c == 10) ≡ true = eq-eqb c 10 e in
    true≢false (sym h ∙ ap (λ (x : Bool). not x) q)

found : (b : Bool) (o : List ℕ) → has_stray b o ≡ true → Found b o (before_stray b o)
found b [] s = absurd (true≢false (sym s))
found b (c ∷ o) s = elim (cases_Bool (b && not (c == 10))) [
  | inl t ↦
      let p = and_parts b (not (c == 10)) t in
      record { front = []; next = c; rest = o; whole = refl; clean = refl; ends = p.0; unlike = no_feed c p.1; at = rw t refl }
  | inr f ↦
      let r = found (c == 13) o (rw f at s) in
      record {
        front = c ∷ r.front;
        next = r.next;
        rest = r.rest;
        whole = ap (λ (t : List ℕ). c ∷ t) r.whole;
        clean = or_false (b && not (c == 10)) (has_stray (c == 13) r.front) f r.clean;
        ends = r.ends;
        unlike = r.unlike;
        at = rw f (ap (λ (n : ℕ). suc n) r.at);
      }
]

-- in a piece behind others, whatever follows
pub in_piece : (d piece more : List ℕ) (count : ℕ) → has_stray false d ≡ false → has_stray (ends_cr false d) piece ≡ true
    → count ≡ before_stray (ends_cr false d) piece → IsStrayAt ((d ++ piece) ++ more) (length d + count - 1)
in_piece d piece more count clean s n =
    let f = found (ends_cr false d) piece s in
    let whole : (d ++ f.front) ++ (f.next ∷ (f.rest ++ more)) ≡ (d ++ piece) ++ more =
    sym (append_assoc (d ++ f.front) (f.next ∷ f.rest) more)
    ∙ ap (λ (t : List ℕ). t ++ more) (append_assoc d f.front (f.next ∷ f.rest) ∙ ap (λ (t : List ℕ). d ++ t) (sym f.whole)) in
    let size : length (d ++ f.front) - 1 ≡ length d + count - 1 = omega (arith, length-append d f.front, f.at, n) in
    let stray = is_stray (d ++ f.front) (f.next ∷ (f.rest ++ more))
    (stray_append false d f.front ∙ or_false (has_stray false d) (has_stray (ends_cr false d) f.front) clean f.clean)
    (ends_append false d f.front ∙ f.ends) (λ m e. f.unlike (ap (λ (o : List ℕ). get_or o 0 0) e)) in
    subst (λ (x : List ℕ). IsStrayAt x (length d + count - 1)) whole
    (subst (λ (k : ℕ). IsStrayAt ((d ++ f.front) ++ (f.next ∷ (f.rest ++ more))) k) size stray)

-- at the end of the document
pub at_end : (d : List ℕ) → has_stray false d ≡ false → ends_cr false d ≡ true → IsStrayAt d (length d - 1)
at_end d clean ends =
    subst (λ (x : List ℕ). IsStrayAt x (length d - 1)) (append-nil d) (is_stray d [] clean ends (λ m e. omega (arith, ap (λ (o : List ℕ). length o) e)))

-- it comes first of a piece only behind a carriage return
pub at_front : (b : Bool) (o : List ℕ) (n : ℕ) → has_stray b o ≡ true → n ≡ before_stray b o → n ≡ 0 → b ≡ true
at_front true o n s e z = refl
at_front false [] n s e z = absurd (true≢false (sym s))
at_front false (c ∷ o) n s e z = absurd (omega (arith, e, z))

-- ---- such a document has no text, and one such place
behind_return : (rest : List ℕ) → ((more : List ℕ) → rest ≡ 10 ∷ more → ⊥) → (has_stray true rest || ends_cr true rest) ≡ true
behind_return [] u = refl
behind_return (c ∷ rest) u = elim (cases_Bool (c == 10)) [
  | inl t ↦ absurd (u rest (ap (λ (x : ℕ). x ∷ rest) (eqb-true c 10 t)))
  | inr f ↦ rw f refl
]

place_behind : (rest : List ℕ) → ((more : List ℕ) → rest ≡ 10 ∷ more → ⊥) → before_stray true rest ≡ 0
place_behind [] u = refl
place_behind (c ∷ rest) u = elim (cases_Bool (c == 10)) [
  | inl t ↦ absurd (u rest (ap (λ (x : ℕ). x ∷ rest) (eqb-true c 10 t)))
  | inr f ↦ rw f refl
]

clean_front : (d : List ℕ) (n : ℕ) → (w : IsStrayAt d n) → (has_stray false w.front ≡ false) × (ends_cr false w.front ≡ false)
clean_front d n w =
    let h = w.has_lines in (
      ap (λ (x : List ℕ). has_stray false x) h.whole ∙ lines_stray w.lines w.last h.each h.rest,
      ap (λ (x : List ℕ). ends_cr false x) h.whole ∙ lines_end w.lines w.last h.each h.rest,
    )

pub no_text : (d text : List ℕ) (n : ℕ) → IsStrayAt d n → HasText d text → ⊥
no_text d text n w t =
    let p = clean_front d n w in
    let q = both_false (has_stray false d) (ends_cr false d) (text_is_made d text t).0 in
    let stray : has_stray false d ≡ has_stray true w.rest =
    ap (λ (x : List ℕ). has_stray false x) w.whole ∙ stray_append false w.front (13 ∷ w.rest)
    ∙ ap (λ (x : Bool). x || has_stray (ends_cr false w.front) (13 ∷ w.rest)) p.0
    ∙ ap (λ (x : Bool). has_stray x (13 ∷ w.rest)) p.1 in
    let ends : ends_cr false d ≡ ends_cr true w.rest =
    ap (λ (x : List ℕ). ends_cr false x) w.whole ∙ ends_append false w.front (13 ∷ w.rest) in
    true≢false (sym (behind_return w.rest w.unlike) ∙ or_false (has_stray true w.rest) (ends_cr true w.rest) (sym stray ∙ q.0) (sym ends ∙ q.1))

passed : (b : Bool) (d e : List ℕ) → has_stray b d ≡ false → before_stray b (d ++ e) ≡ length d + before_stray (ends_cr b d) e
passed b [] e s = omega arith
passed b (c ∷ d) e s =
    let p = both_false (b && not (c == 10)) (has_stray (c == 13) d) s in
    let more = passed (c == 13) d e p.1 in
    rw p.0 (omega (arith, more))

place_is : (d : List ℕ) (n : ℕ) → IsStrayAt d n → before_stray false d ≡ suc n
place_is d n w =
    let p = clean_front d n w in
    let a = passed false w.front (13 ∷ w.rest) p.0 in
    let b : before_stray (ends_cr false w.front) (13 ∷ w.rest) ≡ suc (before_stray true w.rest) = ap (λ (x : Bool). before_stray x (13 ∷ w.rest)) p.1 in
    ap (λ (x : List ℕ). before_stray false x) w.whole ∙ omega (arith, a, b, place_behind w.rest w.unlike, w.at)

pub one_place : (d : List ℕ) (m n : ℕ) → IsStrayAt d m → IsStrayAt d n → m ≡ n
one_place d m n w v = omega (arith, place_is d m w, place_is d n v)

-- ---- a text, or such a place
pub either : (d : List ℕ) → ((text : List ℕ) × HasText d text) ⊎ ((place : ℕ) × IsStrayAt d place)
either d = elim (cases_Bool (has_stray false d)) [
  | inl s ↦
      let n : ℕ = before_stray false d in
      inr (0 + n - 1, subst (λ (x : List ℕ). IsStrayAt x (0 + n - 1)) (append-nil d) (in_piece [] d [] n refl s refl))
  | inr s ↦ elim (cases_Bool (ends_cr false d)) [
    | inl e ↦ inr (length d - 1, at_end d s e)
    | inr e ↦ inl (to_text false d, made_is_text d s e)
  ]
]

pub exact : (d : List ℕ) (pos : ℕ) → length d ≤ 2 ^ 64 → TellsStray d pos → IsStrayAt d pos
exact d pos h w =
    let s = w.is_stray in
    let size = ap (λ (x : List ℕ). length x) s.whole ∙ length-append s.front (13 ∷ s.rest) in
    let e : w.place ≡ pos = omega (arith, size, w.told, s.at, h) in
    subst (λ (n : ℕ). IsStrayAt d n) e s

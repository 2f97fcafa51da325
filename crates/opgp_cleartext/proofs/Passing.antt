-- The lines of a text that were passed.
use Rattle.std.proofs.Common.{◌≡◌, ◌∙◌, ℕ, ◌-◌, ◌<◌, ◌≤◌, ◌==◌, true, false, List, [], ◌∷◌, ◌++◌, length, take, drop, map, refl, sym, ap, subst, inl, inr, arith, append_assoc, append-nil}
use Rattle.std.proofs.lemmas.Bool.{cases_Bool, eqb-true}
use Rattle.std.proofs.lemmas.Grind.{flat_map-append}
use Rattle.std.proofs.lemmas.List.{length-append, length-drop, map-append}
use Rattle.std.proofs.Math.Seq.{take-append_seam}
use Rattle.std.specs.List.{AllByRecursion}
use Rattle.opgp_armor.specs.Cuts.{is_plain}
use Rattle.opgp_armor.specs.Text.{Line, lines, onto}
use Rattle.opgp_armor.specs.Written.{text_of}
use Rattle.opgp_armor.proofs.Texts.{IsPlain, lines-cons, lines-feed, lines-nil, lines-text_plain}
use Rattle.opgp_cleartext.specs.Faults.{Text}
use Rattle.opgp_cleartext.specs.Line.{shown_of}
use Rattle.opgp_cleartext.specs.Machine.{Last, closing, reading}
use Rattle.opgp_cleartext.proofs.Walking.{Ended}

-- ---- no line has a line feed
plain_onto : (c : ℕ) (ls : List Line) → is_plain c ≡ true → AllByRecursion IsPlain ls → AllByRecursion IsPlain (onto c ls)
plain_onto c [] p all = (rw p refl, tt)
plain_onto c (l ∷ ls) p all = (rw p all.0, all.1)

other_plain : (c : ℕ) → (c == 10) ≡ false → is_plain c ≡ true
other_plain c n = rw n refl

pub plain_lines : (text : List ℕ) → AllByRecursion IsPlain (lines text)
plain_lines [] = subst (AllByRecursion IsPlain) (sym lines-nil) tt
plain_lines (c ∷ text) = elim (cases_Bool (c == 10)) [
  | inl y ↦
      let e : lines (c ∷ text) ≡ [] ∷ lines text = ap (λ (v : ℕ). lines (v ∷ text)) (eqb-true c 10 y) ∙ lines-feed text in
      subst (AllByRecursion IsPlain) (sym e) (refl, plain_lines text)
  | inr n ↦
      let p = other_plain c n in
      subst (AllByRecursion IsPlain) (sym (lines-cons c text p)) (plain_onto c (lines text) p (plain_lines text))
]

plain_first : (text : List ℕ) (l : Line) (ls : List Line) → lines text ≡ l ∷ ls → IsPlain l
plain_first text l ls e = let all = subst (AllByRecursion IsPlain) e (plain_lines text) in all.0

plain_push : (ls : List Line) (l : Line) → AllByRecursion IsPlain ls → IsPlain l → AllByRecursion IsPlain (ls ++ l ∷ [])
plain_push [] l all p = (p, tt)
plain_push (m ∷ ls) l all p = (all.0, plain_push ls l all.1 p)

-- ---- the lines from `start` on, up to `at`
pub record Passed (most : ℕ) (text : List ℕ) (start at : ℕ) : Type 0 where
  pub passed : List Line
  pub plain : AllByRecursion IsPlain passed
  pub left : reading most (length text) (Text []) start (lines (drop start text)) ≡ reading most (length text) (Text (map shown_of passed)) at (lines (drop at text))
  -- unless the last line has no line feed
  pub whole : at < length text → drop start text ≡ text_of passed ++ drop at text

pub passed_none : (most : ℕ) (text : List ℕ) (start : ℕ) → Passed most text start start
passed_none most text start = record { passed = []; plain = tt; left = refl; whole = λ h. refl }

text_of-push : (ls : List Line) (l : Line) → text_of (ls ++ l ∷ []) ≡ text_of ls ++ (l ++ 10 ∷ [])
text_of-push ls l = flat_map-append (λ (x : Line). x ++ 10 ∷ []) ls (l ∷ []) ∙ ap (λ (o : List ℕ). text_of ls ++ o) (append-nil (l ++ 10 ∷ []))

shown-push : (ls : List Line) (l : Line) → map shown_of (ls ++ l ∷ []) ≡ map shown_of ls ++ shown_of l ∷ []
shown-push ls l = map-append shown_of ls (l ∷ [])

whole_push : (ls : List Line) (l : Line) (o a b : List ℕ) → o ≡ text_of ls ++ a → a ≡ l ++ 10 ∷ b → o ≡ text_of (ls ++ l ∷ []) ++ b
whole_push ls l o a b e f =
    e ∙ ap (λ (x : List ℕ). text_of ls ++ x) (f ∙ sym (append_assoc l (10 ∷ []) b))
    ∙ sym (append_assoc (text_of ls) (l ++ 10 ∷ []) b) ∙ ap (λ (x : List ℕ). x ++ b) (sym (text_of-push ls l))

pub passed_more : (most : ℕ) (text : List ℕ) (start at next : ℕ) (l : Line) (p : Passed most text start at) → lines (drop at text) ≡ l ∷ lines (drop next text) → Ended text at next l
    → at < length text
    → reading most (length text) (Text (map shown_of p.passed)) at (lines (drop at text)) ≡ reading most (length text) (Text (map shown_of p.passed ++ shown_of l ∷ [])) next (lines (drop next text))
    → Passed most text start next
passed_more most text start at next l p is e lt went = record {
  passed = p.passed ++ l ∷ [];
  plain = plain_push p.passed l p.plain (plain_first (drop at text) l (lines (drop next text)) is);
  left = p.left ∙ went ∙ ap (λ (d : List (List ℕ)). reading most (length text) (Text d) next (lines (drop next text))) (sym (shown-push p.passed l));
  whole = λ h. elim e [
    | inl f ↦ whole_push p.passed l (drop start text) (drop at text) (drop next text) (p.whole lt) f.1
    | inr f ↦ absurd (omega arith)
  ];
}

-- ---- at the line that begins the signatures
long_text : (ls : List Line) → length (text_of ls) ≡ 0 → ls ≡ []
long_text [] e = refl
long_text (l ∷ ls) e = absurd (omega (arith, e, length-append (l ++ 10 ∷ []) (text_of ls), length-append l (10 ∷ [])))

sizes : (text : List ℕ) (start at : ℕ) (ls : List Line) → start ≤ at → at ≤ length text → drop start text ≡ text_of ls ++ drop at text → length (text_of ls) ≡ at - start
sizes text start at ls low high e =
    omega (arith, ap (length {A = ℕ}) e, length-append (text_of ls) (drop at text), length-drop start text, length-drop at text)

pub passed_nothing : (most : ℕ) (text : List ℕ) (start at : ℕ) (p : Passed most text start at) → at < length text → at ≡ start → map shown_of p.passed ≡ []
passed_nothing most text start at p lt e =
    ap (λ (ls : List Line). map shown_of ls) (long_text p.passed (omega (arith, sizes text start at p.passed (omega arith) (omega arith) (p.whole lt))))

some_closes : (d : List (List ℕ)) → (d ≡ [] → ⊥) → closing d ≡ Last d
some_closes [] n = absurd (n refl)
some_closes (s ∷ ss) n = refl

none_shown : (ls : List Line) → map shown_of ls ≡ [] → ls ≡ []
none_shown [] e = refl
none_shown (l ∷ ls) e = cc

pub passed_some : (most : ℕ) (text : List ℕ) (start at : ℕ) (p : Passed most text start at) → at < length text → start ≤ at → (at ≡ start → ⊥)
    → closing (map shown_of p.passed) ≡ Last (map shown_of p.passed)
passed_some most text start at p lt low n =
    some_closes (map shown_of p.passed)
    (λ e. n (omega (arith, sizes text start at p.passed low (omega arith) (p.whole lt), ap (λ (ls : List Line). length (text_of ls)) (none_shown p.passed e))))

pub passed_lines : (most : ℕ) (text : List ℕ) (start at : ℕ) (p : Passed most text start at) → at < length text → start ≤ at
    → map shown_of p.passed ≡ map shown_of (lines (take (at - start) (drop start text)))
passed_lines most text start at p lt low =
    let size = sizes text start at p.passed low (omega arith) (p.whole lt) in
    let front : take (at - start) (drop start text) ≡ text_of p.passed =
    ap (λ (n : ℕ). take n (drop start text)) (sym size) ∙ ap (λ (o : List ℕ). take (length (text_of p.passed)) o) (p.whole lt) ∙ take-append_seam (text_of p.passed) (drop at text) in
    ap (λ (ls : List Line). map shown_of ls) (sym (ap lines front ∙ lines-text_plain p.passed p.plain))

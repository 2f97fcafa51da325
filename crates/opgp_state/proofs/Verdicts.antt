-- Lines of verdicts.
use Rattle.std.proofs.Common.{◌≡◌, ◌≢◌, ◌∙◌, ℕ, ◌+◌, ◌-◌, ◌<◌, inl, inr, List, [], ◌∷◌, ◌++◌, length, take, drop, get_or, refl, sym, ap, subst, true, codes, arith, Option, Some, None}
use Rattle.std.specs.Borrow.{Bor}
use Rattle.std.specs.Prelude.{IfNone, IfSome}
use Rattle.std.specs.List.{AllPass, prefix_len}
use Rattle.std.proofs.lemmas.List.{append_cancel_left, drop_at, get_or-take, take-append-drop, take_rest}
use Rattle.std.proofs.lemmas.List.Elements.{All-head, All-tail}
use Rattle.std.proofs.lemmas.List.Folds.{length-prefix_len}
use Rattle.std.proofs.lemmas.List.Sums.{prefix_len_passes}
use Rattle.opgp_report.specs.declared.verifier.Verdict.{Verdict}
use Rattle.opgp_report.specs.declared.verifier.Verdict.TheVariants.{Good, Bad, Undecided}
use Rattle.opgp_state.specs.declared.verdict_lines.ReadVerdict.{ReadVerdict}
use Rattle.opgp_state.specs.VerdictFile.{IsDoubtLine, IsReasonLine, Says, is_reason_letter}

-- the same octets behind the same front
pub same_behind : (front a b octets : List ℕ) → octets ≡ front ++ a → octets ≡ front ++ b → a ≡ b
same_behind front a b octets p q = append_cancel_left front a b (sym p ∙ q)

-- a word that ends before what is no letter is the longest
pub word_length : (word rest : List ℕ) → AllPass is_reason_letter word → prefix_len is_reason_letter (word ++ (codes "\n" ++ rest)) ≡ length word
word_length [] rest h = refl
word_length (c ∷ word) rest h =
    rw (All-head (λ x. is_reason_letter x ≡ true) c word h) (ap (λ n. 1 + n) (word_length word rest (All-tail (λ x. is_reason_letter x ≡ true) c word h)) ∙ omega arith)

-- its letters are letters
pub longest_passes : (octets : List ℕ) → AllPass is_reason_letter (take (prefix_len is_reason_letter octets) octets)
longest_passes octets k d l =
    let below : k < prefix_len is_reason_letter octets = omega (arith, length-prefix_len is_reason_letter octets) in
    rw (get_or-take (prefix_len is_reason_letter octets) octets k d below) (prefix_len_passes is_reason_letter octets k d below)

-- what is behind a word of letters is what is behind the longest
pub reason_found : (octets rest : List ℕ) (n : ℕ) → n ≡ prefix_len is_reason_letter octets → n ≢ 0 → drop n octets ≡ codes "\n" ++ rest → IsReasonLine octets rest
reason_found octets rest n is some e = (
  take n octets,
  subst (λ m. 0 < m) (sym (ap (λ m. length (take m octets)) is ∙ length-prefix_len is_reason_letter octets)) (omega arith),
  subst (λ m. AllPass is_reason_letter (take m octets)) (sym is) (longest_passes octets),
  sym (take-append-drop n octets) ∙ ap (λ l. take n octets ++ l) e,
)

pub reason_behind : (octets rest : List ℕ) (n : ℕ) → n ≡ prefix_len is_reason_letter octets → IsReasonLine octets rest → (n ≢ 0) × (drop n octets ≡ codes "\n" ++ rest)
reason_behind octets rest n is (word, some, letters, e) =
    let long : n ≡ length word = is ∙ ap (λ l. prefix_len is_reason_letter l) e ∙ word_length word rest letters in
    (λ none. absurd (omega arith), ap (λ l. drop n l) e ∙ drop_at word (codes "\n" ++ rest) n (sym long))

-- ---- which verdict
-- a word, and what is behind it
pub found_reason : (octets : List ℕ) (n : ℕ) (r : Option (Bor (List ℕ))) → n ≡ prefix_len is_reason_letter octets → n ≢ 0 → IfSome r (λ rest. take (length octets - n) (drop n octets) ≡ codes "\n" ++ rest.now) → IfSome r (λ rest. IsReasonLine octets rest.now)
found_reason octets n None is some h = tt
found_reason octets n (Some rest) is some h = reason_found octets rest.now n is some (sym (take_rest octets n) ∙ h)

pub missed_reason : (octets : List ℕ) (n : ℕ) (r : Option (Bor (List ℕ))) → n ≡ prefix_len is_reason_letter octets → IfNone r ((rest : List ℕ) → take (length octets - n) (drop n octets) ≡ codes "\n" ++ rest → ⊥) → IfNone r ((rest : List ℕ) → IsReasonLine octets rest → ⊥)
missed_reason octets n None is h = λ rest k. h rest (take_rest octets n ∙ (reason_behind octets rest n is k).1)
missed_reason octets n (Some x) is h = tt

pub no_letters : (octets rest : List ℕ) (n : ℕ) → n ≡ prefix_len is_reason_letter octets → n ≡ 0 → IsReasonLine octets rest → ⊥
no_letters octets rest n is none h = (reason_behind octets rest n is h).0 none

-- behind `undecided`
doubt_gone : (octets more : List ℕ) → ((rest : List ℕ) → octets ≡ codes "\n" ++ rest → ⊥) → octets ≡ codes " " ++ more
    → ((rest : List ℕ) → IsReasonLine more rest → ⊥) → (rest : List ℕ) → IsDoubtLine octets rest → ⊥
doubt_gone octets more p e q rest (inl h) = p rest h
doubt_gone octets more p e q rest (inr h) = q rest (subst (λ l. IsReasonLine l rest) (same_behind (codes " ") h.0 more octets h.1 e) h.2)

pub doubt_missed : (octets more : List ℕ) (r : Option (Bor (List ℕ))) → ((rest : List ℕ) → octets ≡ codes "\n" ++ rest → ⊥) → octets ≡ codes " " ++ more
    → IfNone r ((rest : List ℕ) → IsReasonLine more rest → ⊥) → IfNone r ((rest : List ℕ) → IsDoubtLine octets rest → ⊥)
doubt_missed octets more None p e q = λ rest h. doubt_gone octets more p e q rest h
doubt_missed octets more (Some x) p e q = tt

pub doubt_none : (octets : List ℕ) → ((rest : List ℕ) → octets ≡ codes "\n" ++ rest → ⊥) → ((more : List ℕ) → octets ≡ codes " " ++ more → ⊥) → (rest : List ℕ) → IsDoubtLine octets rest → ⊥
doubt_none octets p q rest (inl h) = p rest h
doubt_none octets p q rest (inr h) = q h.0 h.1

pub undecided_missed : (octets more : List ℕ) (r : Option (Bor (List ℕ))) → octets ≡ codes " verdict undecided" ++ more → IfNone r ((rest : List ℕ) → IsDoubtLine more rest → ⊥) → IfNone r ((rest : List ℕ) → Says octets Undecided rest → ⊥)
undecided_missed octets more None e q = λ rest h. q rest (subst (λ l. IsDoubtLine l rest) (same_behind (codes " verdict undecided") h.0 more octets h.1 e) h.2)
undecided_missed octets more (Some x) e q = tt

-- where no front fits, nothing is said
pub says_none : (octets : List ℕ) → ((rest : List ℕ) → octets ≡ codes " verdict good\n" ++ rest → ⊥) → ((rest : List ℕ) → octets ≡ codes " verdict bad\n" ++ rest → ⊥)
    → ((rest : List ℕ) → Says octets Undecided rest → ⊥) → (verdict : Verdict) (rest : List ℕ) → Says octets verdict rest → ⊥
says_none octets p q r Good rest h = p rest h
says_none octets p q r Bad rest h = q rest h
says_none octets p q r Undecided rest h = r rest h

pub says_missed : (octets : List ℕ) (r : Option ReadVerdict) → ((rest : List ℕ) → octets ≡ codes " verdict good\n" ++ rest → ⊥) → ((rest : List ℕ) → octets ≡ codes " verdict bad\n" ++ rest → ⊥)
    → IfNone r ((rest : List ℕ) → Says octets Undecided rest → ⊥) → IfNone r ((verdict : Verdict) (rest : List ℕ) → Says octets verdict rest → ⊥)
says_missed octets None p q h = says_none octets p q h
says_missed octets (Some x) p q h = tt

-- ---- a verdict is said once
no_reason : (rest rest' : List ℕ) → codes "\n" ++ rest ≡ codes " " ++ rest' → ⊥
no_reason rest rest' e = cc e

pub reason_once : (octets rest rest' : List ℕ) → IsReasonLine octets rest → IsReasonLine octets rest' → rest ≡ rest'
reason_once octets rest rest' h k =
    let n = prefix_len is_reason_letter octets in
    append_cancel_left (codes "\n") rest rest' (sym ((reason_behind octets rest n refl h).1) ∙ (reason_behind octets rest' n refl k).1)

pub doubt_once : (octets rest rest' : List ℕ) → IsDoubtLine octets rest → IsDoubtLine octets rest' → rest ≡ rest'
doubt_once octets rest rest' (inl h) (inl k) = same_behind (codes "\n") rest rest' octets h k
doubt_once octets rest rest' (inl h) (inr k) = absurd (no_reason rest k.0 (sym h ∙ k.1))
doubt_once octets rest rest' (inr h) (inl k) = absurd (no_reason rest' h.0 (sym k ∙ h.1))
doubt_once octets rest rest' (inr h) (inr k) =
    reason_once h.0 rest rest' h.2 (subst (λ l. IsReasonLine l rest') (same_behind (codes " ") k.0 h.0 octets k.1 h.1) k.2)

apart_good : (a b : List ℕ) → codes " verdict good\n" ++ a ≡ codes " verdict bad\n" ++ b → ⊥
apart_good a b e = let f : codes "good\n" ++ a ≡ codes "bad\n" ++ b = append_cancel_left (codes " verdict ") (codes "good\n" ++ a) (codes "bad\n" ++ b) e in cc f

apart_doubt : (a b : List ℕ) → codes " verdict good\n" ++ a ≡ codes " verdict undecided" ++ b → ⊥
apart_doubt a b e = let f : codes "good\n" ++ a ≡ codes "undecided" ++ b = append_cancel_left (codes " verdict ") (codes "good\n" ++ a) (codes "undecided" ++ b) e in let g : 103 ≡ 117 = ap (λ (l : List ℕ). get_or l 0 0) f in absurd (omega (arith, g))

apart_bad : (a b : List ℕ) → codes " verdict bad\n" ++ a ≡ codes " verdict undecided" ++ b → ⊥
apart_bad a b e = let f : codes "bad\n" ++ a ≡ codes "undecided" ++ b = append_cancel_left (codes " verdict ") (codes "bad\n" ++ a) (codes "undecided" ++ b) e in let g : 98 ≡ 117 = ap (λ (l : List ℕ). get_or l 0 0) f in absurd (omega (arith, g))

pub says_once : (octets : List ℕ) (v v' : Verdict) (rest rest' : List ℕ) → Says octets v rest → Says octets v' rest' → (v ≡ v') × (rest ≡ rest')
says_once octets Good Good rest rest' h k = (refl, same_behind (codes " verdict good\n") rest rest' octets h k)
says_once octets Good Bad rest rest' h k = absurd (apart_good rest rest' (sym h ∙ k))
says_once octets Good Undecided rest rest' h k = absurd (apart_doubt rest k.0 (sym h ∙ k.1))
says_once octets Bad Good rest rest' h k = absurd (apart_good rest' rest (sym k ∙ h))
says_once octets Bad Bad rest rest' h k = (refl, same_behind (codes " verdict bad\n") rest rest' octets h k)
says_once octets Bad Undecided rest rest' h k = absurd (apart_bad rest k.0 (sym h ∙ k.1))
says_once octets Undecided Good rest rest' h k = absurd (apart_doubt rest' h.0 (sym k ∙ h.1))
says_once octets Undecided Bad rest rest' h k = absurd (apart_bad rest' h.0 (sym k ∙ h.1))
says_once octets Undecided Undecided rest rest' h k =
    (refl, doubt_once h.0 rest rest' h.2 (subst (λ l. IsDoubtLine l rest') (same_behind (codes " verdict undecided") k.0 h.0 octets k.1 h.1) k.2))

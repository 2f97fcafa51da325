-- What a signature says, and those that are embedded in it, apart from what is said before.
use Rattle.std.proofs.Common.{◌≡◌, ◌∙◌, ◌++◌, ℕ, ◌+◌, ◌<◌, ◌≤◌, ◌==◌, List, [], ◌∷◌, map, Bool, true, false, ◌&&◌, ◌||◌, cond, Option, Some, None, is_none, is_some, Result, Ok, Err, ◌⊎◌, inl, inr, refl, ap, arith, append_assoc}
use Rattle.std.specs.List.{fold, list_any}
use Rattle.std.proofs.lemmas.Bool.{and_left, and_right, eqb-true, false_from_ne_true, false≢true, ne_eqb, or_from, or_parts}
use Rattle.std.proofs.lemmas.List.Folds.{list_any-append}
use Rattle.opgp_hash.specs.SubjectValue.{SubjectValue}
use Rattle.opgp_hash.specs.SignedValue.{signed_of}
use Rattle.opgp_hash.specs.declared.fingerprints.Fingerprint.{Fingerprint}
use Rattle.opgp_hash.specs.declared.site.Site.TheVariants.{Hung, Embedded}
use Rattle.opgp_octets.specs.declared.fault.BodyFault.{BodyFault}
use Rattle.opgp_packet.specs.SignatureBody.{SignatureValue, signature_at}
use Rattle.opgp_report.specs.Standing.{Standing, bodies_within, by_number, nested_at, nested_standing, signature_standing, stands}
use Rattle.opgp_report.specs.declared.place.Place.{Place}
use Rattle.opgp_report.specs.declared.verifier.Verdict.{Verdict}
use Rattle.opgp_valid.specs.Group.{is_the}
use Rattle.opgp_valid.specs.Told.{author_of, back_in, change_last, first_verdict, holds, is_genuine, is_same_number, issuer, lives_in, rest_of, second_key, stated, stated_by, statement_of, told, told_by, told_with, with_back, with_embedded, with_verdicts}
use Rattle.opgp_valid.specs.declared.known_keys.Known.{Known}
use Rattle.opgp_valid.specs.declared.policy.Policy.{Policy}
use Rattle.opgp_valid.specs.declared.statement.Author.{Author}
use Rattle.opgp_valid.specs.declared.statement.Life.{Life}
use Rattle.opgp_valid.specs.declared.statement.Statement.{Statement}

-- ---- the last, changed
-- behind others, of which none is the one that holds what is at the place
apart_last : (p : Place) (life : Option Life) (before acc : List Statement) → list_any (holds p) before ≡ false → change_last (with_back p life) (before ++ acc) ≡ before ++ change_last (with_back p life) acc
apart_last p life [] acc e = refl
apart_last p life (s ∷ []) [] e = rw (or_parts (holds p s) false e).0 refl
apart_last p life (s ∷ []) (t ∷ acc) e = refl
apart_last p life (s ∷ t ∷ before) acc e =
    ap (λ (l : List Statement). s ∷ l) (apart_last p life (t ∷ before) acc (or_parts (holds p s) (list_any (holds p) (t ∷ before)) e).1)

-- a change after which each passes a test as before
last_passes : (q : Statement → Bool) (f : Statement → Statement) → ((s : Statement) → q (f s) ≡ q s) → (ss : List Statement) → list_any q (change_last f ss) ≡ list_any q ss
last_passes q f same [] = refl
last_passes q f same (s ∷ []) = ap (λ (t : Bool). t || false) (same s)
last_passes q f same (s ∷ r ∷ ss) = ap (λ (t : Bool). q s || t) (last_passes q f same (r ∷ ss))

-- it stays where it is
back_stays : (p place : Place) (life : Option Life) (s : Statement) → holds p (with_back place life s) ≡ holds p s
back_stays p place life s = step (holds place s) refl where
  step : (t : Bool) → holds place s ≡ t → holds p (with_back place life s) ≡ holds p s
  step true e = rw e refl
  step false e = rw e refl

chosen_behind : (before : List Statement) (t : Bool) (a b c d : List Statement) → a ≡ before ++ c → b ≡ before ++ d → cond t a b ≡ before ++ cond t c d
chosen_behind before true a b c d e f = e
chosen_behind before false a b c d e f = f

either_away : (p : Place) (t : Bool) (a b : List Statement) → list_any (holds p) a ≡ false → list_any (holds p) b ≡ false → list_any (holds p) (cond t a b) ≡ false
either_away p true a b x y = x
either_away p false a b x y = y

-- ---- places
-- the components in order, behind the primary key
abbrev pub rank : Option ℕ → ℕ
rank None = 0
rank (Some n) = n + 1

same_rank : (a b : Option ℕ) → is_same_number a b ≡ true → rank a ≡ rank b
same_rank None None e = refl
same_rank None (Some b) e = absurd (false≢true e)
same_rank (Some a) None e = absurd (false≢true e)
same_rank (Some a) (Some b) e = ap (λ (n : ℕ). n + 1) (eqb-true a b e)

-- a place is at this one, or behind it
abbrev pub IsFrom : ℕ → ℕ → Place → Type 0
IsFrom r n p = (r < rank p.component) ⊎ ((r ≡ rank p.component) × (n ≤ p.hang))

pub elsewhere : (component : Option ℕ) (n : ℕ) (p : Place) → IsFrom (rank component) (n + 1) p → (is_same_number component p.component && (n == p.hang)) ≡ false
elsewhere component n p (inl l) = and_left (is_same_number component p.component) (n == p.hang) (false_from_ne_true (is_same_number component p.component) (λ e. let h : rank component ≡ rank p.component = same_rank component p.component e in omega arith))
elsewhere component n p (inr l) = and_right (is_same_number component p.component) (n == p.hang) (ne_eqb n p.hang (λ e. let h : n + 1 ≤ p.hang = l.1 in omega arith))

module _ (known : List Known) (policy : Policy) (primary : Fingerprint) (revokers : List Fingerprint) where
  abbrev pub tell : List Statement → Standing × Verdict → List Statement
  tell before x = told known policy primary revokers before x

  -- ---- apart from what is said before
  apart_by : (before acc : List Statement) (s : Standing) (v : SignatureValue) → list_any (holds s.place) before ≡ false
      → told_by known policy primary revokers s v (before ++ acc) ≡ before ++ told_by known policy primary revokers s v acc
  apart_by before acc s v e =
      let life : Option Life = back_in known policy primary (second_key s.subject) v in
      chosen_behind before (is_none s.place.nested) _ _ (acc ++ stated known policy primary revokers s.place s.subject v) (with_embedded known policy primary revokers s.place (second_key s.subject) v acc)
      (append_assoc before acc (stated known policy primary revokers s.place s.subject v))
      (chosen_behind before (is_the 0 s.place.nested) _ _ (change_last (with_back s.place life) acc) acc (apart_last s.place life before acc e) refl)

  apart_with : (before acc : List Statement) (s : Standing) (found : Verdict) (r : Result SignatureValue BodyFault) → list_any (holds s.place) before ≡ false
      → told_with known policy primary revokers (before ++ acc) s found r ≡ before ++ told_with known policy primary revokers acc s found r
  apart_with before acc s found (Err fault) e = refl
  apart_with before acc s found (Ok v) e = chosen_behind before (is_genuine s found v) _ _ (told_by known policy primary revokers s v acc) acc (apart_by before acc s v e) refl

  module _ (place : Place) (subject : SubjectValue) where
    nested_apart : (n : ℕ) (bodies : List (List ℕ)) (founds : List Verdict) (before acc : List Statement) → list_any (holds place) before ≡ false
        → fold tell (before ++ acc) (with_verdicts founds (by_number (nested_standing place subject) n bodies)) ≡ before ++ fold tell acc (with_verdicts founds (by_number (nested_standing place subject) n bodies))
    nested_apart n [] founds before acc e = refl
    nested_apart n (body ∷ bodies) founds before acc e =
        let s : Standing = stands Embedded (nested_at place n) subject body in
        ap (λ (l : List Statement). fold tell l (with_verdicts (rest_of founds) (by_number (nested_standing place subject) (n + 1) bodies))) (apart_with before acc s (first_verdict founds) (signature_at body) e)
        ∙ nested_apart (n + 1) bodies (rest_of founds) before (tell acc (s, first_verdict founds)) e

    pub group_apart : (body : List ℕ) (founds : List Verdict) (before acc : List Statement) → list_any (holds place) before ≡ false
        → fold tell (before ++ acc) (with_verdicts founds (signature_standing place subject body)) ≡ before ++ fold tell acc (with_verdicts founds (signature_standing place subject body))
    group_apart body founds before acc e =
        let s : Standing = stands Hung place subject body in
        ap (λ (l : List Statement). fold tell l (with_verdicts (rest_of founds) (by_number (nested_standing place subject) 0 (bodies_within subject (signature_at body))))) (apart_with before acc s (first_verdict founds) (signature_at body) e)
        ∙ nested_apart 0 (bodies_within subject (signature_at body)) (rest_of founds) before (tell acc (s, first_verdict founds)) e

  -- ---- no statement at other places
  module _ (p : Place) where
    at_each : (place : Place) (subject : SubjectValue) (v : SignatureValue) (a : Author) (lives : List (Option Life)) → (is_same_number place.component p.component && (place.hang == p.hang)) ≡ false
        → list_any (holds p) (map (statement_of known policy primary revokers place subject v a) lives) ≡ false
    at_each place subject v a [] e = refl
    at_each place subject v a (l ∷ ls) e = or_from _ _ e (at_each place subject v a ls e)

    by_author : (place : Place) (subject : SubjectValue) (v : SignatureValue) (o : Option Author) → (is_same_number place.component p.component && (place.hang == p.hang)) ≡ false
        → list_any (holds p) (stated_by known policy primary revokers place subject v o) ≡ false
    by_author place subject v None e = refl
    by_author place subject v (Some a) e = at_each place subject v a (lives_in v) e

    away_by : (acc : List Statement) (s : Standing) (v : SignatureValue) → (is_same_number s.place.component p.component && (s.place.hang == p.hang)) ≡ false
        → list_any (holds p) acc ≡ false → list_any (holds p) (told_by known policy primary revokers s v acc) ≡ false
    away_by acc s v e h =
        let life : Option Life = back_in known policy primary (second_key s.subject) v in
        let here : list_any (holds p) (stated known policy primary revokers s.place s.subject v) ≡ false = either_away p (is_some (signed_of v)) _ [] (by_author s.place s.subject v (author_of known policy primary revokers (issuer known policy primary v)) e) refl in
        either_away p (is_none s.place.nested) (acc ++ stated known policy primary revokers s.place s.subject v) (with_embedded known policy primary revokers s.place (second_key s.subject) v acc)
        (list_any-append (holds p) acc (stated known policy primary revokers s.place s.subject v) ∙ or_from _ _ h here)
        (either_away p (is_the 0 s.place.nested) (change_last (with_back s.place life) acc) acc (last_passes (holds p) (with_back s.place life) (back_stays p s.place life) acc ∙ h) h)

    away_with : (acc : List Statement) (s : Standing) (found : Verdict) (r : Result SignatureValue BodyFault) → (is_same_number s.place.component p.component && (s.place.hang == p.hang)) ≡ false
        → list_any (holds p) acc ≡ false → list_any (holds p) (told_with known policy primary revokers acc s found r) ≡ false
    away_with acc s found (Err fault) e h = h
    away_with acc s found (Ok v) e h = either_away p (is_genuine s found v) (told_by known policy primary revokers s v acc) acc (away_by acc s v e h) h

    module _ (place : Place) (subject : SubjectValue) (e : (is_same_number place.component p.component && (place.hang == p.hang)) ≡ false) where
      nested_away : (n : ℕ) (bodies : List (List ℕ)) (founds : List Verdict) (acc : List Statement) → list_any (holds p) acc ≡ false
          → list_any (holds p) (fold tell acc (with_verdicts founds (by_number (nested_standing place subject) n bodies))) ≡ false
      nested_away n [] founds acc h = h
      nested_away n (body ∷ bodies) founds acc h =
          let s : Standing = stands Embedded (nested_at place n) subject body in
          nested_away (n + 1) bodies (rest_of founds) (tell acc (s, first_verdict founds)) (away_with acc s (first_verdict founds) (signature_at body) e h)

      pub group_away : (body : List ℕ) (founds : List Verdict) → list_any (holds p) (fold tell [] (with_verdicts founds (signature_standing place subject body))) ≡ false
      group_away body founds =
          let s : Standing = stands Hung place subject body in
          nested_away 0 (bodies_within subject (signature_at body)) (rest_of founds) (tell [] (s, first_verdict founds)) (away_with [] s (first_verdict founds) (signature_at body) e refl)

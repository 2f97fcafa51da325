-- More keys behind those that are known change nothing that is said, where the issuers are known.
use Rattle.std.proofs.Common.{◌≡◌, ◌∙◌, ◌++◌, ℕ, zero, suc, ◌+◌, List, [], ◌∷◌, map, Bool, true, false, cond, Option, Some, None, IsSome, is_none, is_some, Result, Ok, Err, All, position, slice_get, option_and_then, refl, sym, ap}
use Rattle.std.specs.List.{flat_map, fold, position_from}
use Rattle.std.proofs.lemmas.Bool.{false≢true}
use Rattle.std.proofs.lemmas.Iterator.Adapters.{position_from-zero}
use Rattle.std.proofs.lemmas.List.{map-append}
use Rattle.std.proofs.lemmas.List.Elements.{All-head, All-tail}
use Rattle.opgp_hash.specs.SignedValue.{signed_of}
use Rattle.opgp_hash.specs.SubjectValue.{SubjectValue}
use Rattle.opgp_hash.specs.declared.fingerprints.Fingerprint.{Fingerprint}
use Rattle.opgp_octets.specs.declared.fault.BodyFault.{BodyFault}
use Rattle.opgp_packet.specs.SignatureBody.{SignatureValue, signature_at}
use Rattle.opgp_report.specs.First.{has_id, has_print, print_of}
use Rattle.opgp_report.specs.Signer.{NameValue, by_print, by_id, unnamed, issuer_of, named_in, signer_of}
use Rattle.opgp_report.specs.Standing.{Standing, certificate_standing}
use Rattle.opgp_report.specs.declared.place.Place.{Place}
use Rattle.opgp_report.specs.declared.verifier.Verdict.{Verdict}
use Rattle.opgp_keyring.specs.Keyring.{CertificateValue}
use Rattle.opgp_valid.specs.Group.{is_the}
use Rattle.opgp_valid.specs.Judgement.{facts_by}
use Rattle.opgp_valid.specs.KnownKeys.{issuer_among}
use Rattle.opgp_valid.specs.Laws.{IsByKnown, with_statements}
use Rattle.opgp_valid.specs.Policy.{created_of, version_of}
use Rattle.opgp_valid.specs.Told.{author_of, back_in, change_last, is_genuine, is_good_verdict, lives_in, revokers_at, revokers_by, revokers_of, second_key, stated, stated_by, statement_of, told, told_by, told_with, with_back, with_revocations, with_verdicts}
use Rattle.opgp_valid.specs.declared.known_keys.Known.{Known}
use Rattle.opgp_valid.specs.declared.policy.Policy.{Policy}
use Rattle.opgp_valid.specs.declared.statement.Author.{Author}
use Rattle.opgp_valid.specs.declared.statement.Life.{Life}
use Rattle.opgp_valid.specs.declared.statement.Statement.{Statement}
use Rattle.opgp_valid.proofs.Verdicts.{named_none, told_nothing}

-- ---- the first of a list stays the first
place_stays : {A : Type 0} (p : A → Bool) (j i : ℕ) (xs ys : List A) → position_from p j xs ≡ Some i → position_from p j (xs ++ ys) ≡ Some i
place_stays p j i [] ys e = absurd (cc)
place_stays {A} p j i (x ∷ xs) ys e = step (p x) e (place_stays p (j + 1) i xs ys) where
  step : (t : Bool) → cond t (Some j) (position_from p (j + 1) xs) ≡ Some i → (position_from p (j + 1) xs ≡ Some i → position_from p (j + 1) (xs ++ ys) ≡ Some i) → cond t (Some j) (position_from p (j + 1) (xs ++ ys)) ≡ Some i
  step true e later = e
  step false e later = later e

first_stays : (p : Fingerprint → Bool) (i : ℕ) (xs ys : List Fingerprint) → position p xs ≡ Some i → position p (xs ++ ys) ≡ Some i
first_stays p i xs ys e = position_from-zero p (xs ++ ys) ∙ place_stays p 0 i xs ys (sym (position_from-zero p xs) ∙ e)

named_stays : (name : NameValue) (i : ℕ) (xs ys : List Fingerprint) → named_in xs name ≡ Some i → named_in (xs ++ ys) name ≡ Some i
named_stays (by_print version octets) i xs ys e = first_stays (has_print version octets) i xs ys e
named_stays (by_id id) i xs ys e = first_stays (has_id id) i xs ys e
named_stays unnamed i xs ys e = absurd (cc)

got_stays : (i : ℕ) (xs ys : List Known) (k : Known) → slice_get xs i ≡ Some k → slice_get (xs ++ ys) i ≡ Some k
got_stays i [] ys k e = absurd (cc)
got_stays zero (x ∷ xs) ys k e = e
got_stays (suc i) (x ∷ xs) ys k e = got_stays i xs ys k e

-- ---- the issuer
module _ (known more : List Known) (v : SignatureValue) where
  abbrev prints : List Known → List Fingerprint
  prints ks = map (λ k. k.print) ks

  issuer_stays : (k : Known) (o : Option ℕ) → signer_of (prints known) v ≡ o → option_and_then (λ i. slice_get known i) o ≡ Some k → issuer_among (known ++ more) v ≡ Some k
  issuer_stays k None here e = absurd (cc)
  issuer_stays k (Some i) here e =
      ap (λ (l : List Fingerprint). option_and_then (λ (n : ℕ). slice_get (known ++ more) n) (signer_of l v)) (map-append (λ (x : Known). x.print) known more)
      ∙ ap (λ (o : Option ℕ). option_and_then (λ (n : ℕ). slice_get (known ++ more) n) o) (named_stays (issuer_of v) i (prints known) (prints more) here)
      ∙ got_stays i known more k e

  same_issuer : IsSome (issuer_among known v) → issuer_among (known ++ more) v ≡ issuer_among known v
  same_issuer h = step (issuer_among known v) refl h where
    step : (o : Option Known) → issuer_among known v ≡ o → IsSome o → issuer_among (known ++ more) v ≡ issuer_among known v
    step None here h = absurd (false≢true h)
    step (Some k) here h = issuer_stays k (signer_of (prints known) v) refl here ∙ sym here

-- ---- what rows say
module _ (known more : List Known) (policy : Policy) (primary : Fingerprint) where
  -- a signature that is found good names a key that is known
  abbrev IsKnownIssuer : Verdict → Result SignatureValue BodyFault → Type 0
  IsKnownIssuer found r = is_good_verdict found ≡ true → (v : SignatureValue) → r ≡ Ok v → IsSome (issuer_among known v)

  same_names : (s : Standing) (found : Verdict) (r : Result SignatureValue BodyFault) → IsKnownIssuer found r → revokers_by (known ++ more) primary s found r ≡ revokers_by known primary s found r
  same_names s found (Err fault) h = refl
  same_names s found (Ok v) h = step (is_good_verdict found) refl where
    step : (t : Bool) → is_good_verdict found ≡ t → revokers_by (known ++ more) primary s found (Ok v) ≡ revokers_by known primary s found (Ok v)
    step true e = rw (same_issuer known more v (h e v refl)) refl
    step false e = named_none (known ++ more) primary s found (Ok v) e ∙ sym (named_none known primary s found (Ok v) e)

  all_names : (rows : List (Standing × Verdict)) → All (IsByKnown known) rows → flat_map (revokers_at (known ++ more) primary) rows ≡ flat_map (revokers_at known primary) rows
  all_names [] h = refl
  all_names (x ∷ rows) h =
      ap (λ (l : List Fingerprint). l ++ flat_map (revokers_at (known ++ more) primary) rows) (same_names x.0 x.1 (signature_at x.0.body) (All-head (IsByKnown known) x rows h))
      ∙ ap (λ (l : List Fingerprint). revokers_at known primary x ++ l) (all_names rows (All-tail (IsByKnown known) x rows h))

  module _ (revokers : List Fingerprint) where
    -- a signature whose issuer is the same says the same
    module _ (v : SignatureValue) (e : issuer_among (known ++ more) v ≡ issuer_among known v) where
      same_statement : (place : Place) (subject : SubjectValue) (a : Author) (life : Option Life) → statement_of (known ++ more) policy primary revokers place subject v a life ≡ statement_of known policy primary revokers place subject v a life
      same_statement place subject a life = rw e refl

      same_statements : (place : Place) (subject : SubjectValue) (a : Author) (lives : List (Option Life)) → map (statement_of (known ++ more) policy primary revokers place subject v a) lives ≡ map (statement_of known policy primary revokers place subject v a) lives
      same_statements place subject a [] = refl
      same_statements place subject a (l ∷ ls) =
          ap (λ (x : Statement). x ∷ map (statement_of (known ++ more) policy primary revokers place subject v a) ls) (same_statement place subject a l)
          ∙ ap (λ (xs : List Statement). statement_of known policy primary revokers place subject v a l ∷ xs) (same_statements place subject a ls)

      same_by : (place : Place) (subject : SubjectValue) (o : Option Author) → stated_by (known ++ more) policy primary revokers place subject v o ≡ stated_by known policy primary revokers place subject v o
      same_by place subject None = refl
      same_by place subject (Some a) = same_statements place subject a (lives_in v)

      same_stated : (place : Place) (subject : SubjectValue) → stated (known ++ more) policy primary revokers place subject v ≡ stated known policy primary revokers place subject v
      same_stated place subject =
          ap (λ (o : Option Known). cond (is_some (signed_of v)) (stated_by (known ++ more) policy primary revokers place subject v (author_of known policy primary revokers o)) []) e
          ∙ ap (λ (l : List Statement). cond (is_some (signed_of v)) l []) (same_by place subject (author_of known policy primary revokers (issuer_among known v)))

      same_back : (subkey : Option (List ℕ)) → back_in (known ++ more) policy primary subkey v ≡ back_in known policy primary subkey v
      same_back subkey = rw e refl

      same_told_by : (before : List Statement) (s : Standing) → told_by (known ++ more) policy primary revokers s v before ≡ told_by known policy primary revokers s v before
      same_told_by before s =
          ap (λ (l : List Statement). cond (is_none s.place.nested) (before ++ l) (cond (is_the 0 s.place.nested) (change_last (with_back s.place (back_in (known ++ more) policy primary (second_key s.subject) v)) before) before)) (same_stated s.place s.subject)
          ∙ ap (λ (life : Option Life). cond (is_none s.place.nested) (before ++ stated known policy primary revokers s.place s.subject v) (cond (is_the 0 s.place.nested) (change_last (with_back s.place life) before) before)) (same_back (second_key s.subject))

    same_told : (before : List Statement) (s : Standing) (found : Verdict) (r : Result SignatureValue BodyFault) → IsKnownIssuer found r → told_with (known ++ more) policy primary revokers before s found r ≡ told_with known policy primary revokers before s found r
    same_told before s found (Err fault) h = refl
    same_told before s found (Ok v) h = step (is_good_verdict found) refl where
      step : (t : Bool) → is_good_verdict found ≡ t → told_with (known ++ more) policy primary revokers before s found (Ok v) ≡ told_with known policy primary revokers before s found (Ok v)
      step true e = ap (λ (l : List Statement). cond (is_genuine s found v) l before) (same_told_by v (same_issuer known more v (h e v refl)) before s)
      step false e = told_nothing (known ++ more) policy primary revokers before s found (Ok v) e ∙ sym (told_nothing known policy primary revokers before s found (Ok v) e)

    all_told : (before : List Statement) (rows : List (Standing × Verdict)) → All (IsByKnown known) rows → fold (told (known ++ more) policy primary revokers) before rows ≡ fold (told known policy primary revokers) before rows
    all_told before [] h = refl
    all_told before (x ∷ rows) h =
        ap (λ (l : List Statement). fold (told (known ++ more) policy primary revokers) l rows) (same_told before x.0 x.1 (signature_at x.0.body) (All-head (IsByKnown known) x rows h))
        ∙ all_told (told known policy primary revokers before x) rows (All-tail (IsByKnown known) x rows h)

pub more_known : (known more : List Known) (policy : Policy) (c : CertificateValue) (founds : List Verdict) → All (IsByKnown known) (with_verdicts founds (certificate_standing 0 c)) → facts_by (known ++ more) policy c founds ≡ facts_by known policy c founds
more_known known more policy c founds h =
    let primary : Fingerprint = print_of c.primary.body in
    let rows : List (Standing × Verdict) = with_verdicts founds (certificate_standing 0 c) in
    ap (λ (l : List Statement). with_statements (version_of c.primary.body) (created_of c.primary.body) (with_revocations l))
    (ap (λ (l : List Fingerprint). fold (told (known ++ more) policy primary l) [] rows) (all_names known more policy primary rows h)
    ∙ all_told known more policy primary (revokers_of known c founds) [] rows h)

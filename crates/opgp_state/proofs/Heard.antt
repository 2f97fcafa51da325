-- What isn't by a certificate's primary key says nothing, where no signature of its own names a key that may revoke.
use Rattle.std.proofs.Common.{◌≡◌, ◌∙◌, ◌⊎◌, inl, inr, ℕ, Bool, true, false, cond, List, [], ◌∷◌, ◌++◌, map, Option, Some, None, Result, Ok, Err, is_none, is_some, refl, sym, ap, subst, append-nil}
use Rattle.std.specs.Prelude.{◌&&◌, ◌||◌, not, slice_get}
use Rattle.std.specs.List.{flat_map, fold, list_any, position}
use Rattle.std.specs.Option.{option_and_then, option_map}
use Rattle.std.specs.Str.{bytes_eq}
use Rattle.std.proofs.lemmas.Bool.{and_right, false_from_ne_true, true≢false}
use Rattle.std.proofs.lemmas.List.Quantifiers.{position-Some}
use Rattle.std.proofs.lemmas.Option.{slice_get-map, get_or_from_slice_get}
use Rattle.std.proofs.lemmas.Slice.Eq.{bytes_eq-Decides}
use Rattle.opgp_octets.specs.declared.fault.BodyFault.{BodyFault}
use Rattle.opgp_packet.specs.Areas.{hashed_subs}
use Rattle.opgp_packet.specs.SignatureBody.{SignatureValue, signature_at}
use Rattle.opgp_packet.specs.Subpackets.{Sub}
use Rattle.opgp_hash.specs.Fingerprint.{print_octets, print_version}
use Rattle.opgp_hash.specs.SignedValue.{signed_of}
use Rattle.opgp_hash.specs.declared.fingerprints.Fingerprint.{Fingerprint}
use Rattle.opgp_hash.specs.declared.fingerprints.Fingerprint.TheVariants.{Four, Six}
use Rattle.opgp_keyring.specs.Keyring.{CertificateValue}
use Rattle.opgp_report.specs.First.{has_id, has_print, print_of}
use Rattle.opgp_report.specs.Signer.{NameValue, by_print, by_id, unnamed, issuer_of, named_in}
use Rattle.opgp_report.specs.Standing.{Standing, certificate_standing}
use Rattle.opgp_report.specs.declared.verifier.Verdict.{Verdict}
use Rattle.opgp_report.specs.declared.verifier.Verdict.TheVariants.{Undecided}
use Rattle.opgp_valid.specs.Facts.{FactsValue}
use Rattle.opgp_valid.specs.KnownKeys.{issuer_among}
use Rattle.opgp_valid.specs.Policy.{created_of, version_of}
use Rattle.opgp_valid.specs.Subpackets.{at_most_one, revoker_stated, revokers_in}
use Rattle.opgp_valid.specs.Told.{author_of, is_genuine, is_print, named_by, names_revokers, revokers_at, revokers_by, stated, stated_by, told, told_by, told_with, type_in, with_revocations, with_verdicts}
use Rattle.opgp_valid.specs.declared.known_keys.Known.{Known}
use Rattle.opgp_valid.specs.declared.policy.Policy.{Policy}
use Rattle.opgp_valid.specs.declared.statement.Author.{Author}
use Rattle.opgp_valid.specs.declared.statement.Statement.{Statement}
use Rattle.opgp_state.specs.Claiming.{claim, claim_heard, has_name, has_revokers, is_heard, is_of_revoker, names_key, names_some}
use Rattle.opgp_state.specs.Claims.{SayTheSame}

-- ---- tests
pub or_false : (a b : Bool) → (a || b) ≡ false → (a ≡ false) × (b ≡ false)
or_false true b e = absurd (true≢false e)
or_false false b e = (refl, e)

-- ---- whose a signature is
-- the key that is found has the name
found_has : (p : Fingerprint → Bool) (ks : List Known) (k : Known) → option_and_then (λ i. slice_get ks i) (position p (map (λ k. k.print) ks)) ≡ Some k → p k.print ≡ true
found_has p ks k e = step (position p (map (λ (k : Known). k.print) ks)) refl e where
  step : (o : Option ℕ) → position p (map (λ (k : Known). k.print) ks) ≡ o → option_and_then (λ i. slice_get ks i) o ≡ Some k → p k.print ≡ true
  step None here none = cc none
  step (Some i) here some =
      subst (λ (f : Fingerprint). p f ≡ true)
      (get_or_from_slice_get (map (λ (k : Known). k.print) ks) i k.print k.print (slice_get-map (λ (k : Known). k.print) ks i ∙ ap (option_map (λ (k : Known). k.print)) some))
      (position-Some p (map (λ (k : Known). k.print) ks) i k.print here).1

named_has : (ks : List Known) (n : NameValue) (k : Known) → option_and_then (λ i. slice_get ks i) (named_in (map (λ k. k.print) ks) n) ≡ Some k → has_name n k.print ≡ true
named_has ks (by_print version octets) k e = found_has (has_print version octets) ks k e
named_has ks (by_id id) k e = found_has (has_id id) ks k e
named_has ks unnamed k e = cc e

same_octets : (a b : List ℕ) → bytes_eq a b ≡ true → a ≡ b
same_octets a b e = (bytes_eq-Decides a b).0 e

one_print : (a b : Fingerprint) → has_print (print_version a) (print_octets a) b ≡ true → a ≡ b
one_print (Four a) (Four b) e = ap Four (sym (same_octets b a e))
one_print (Four a) (Six b) e = absurd (true≢false (sym e))
one_print (Six a) (Four b) e = absurd (true≢false (sym e))
one_print (Six a) (Six b) e = ap Six (sym (same_octets b a e))

not_own : (known : List Known) (print : Fingerprint) (v : SignatureValue) → has_name (issuer_of v) print ≡ false → is_print print (issuer_among known v) ≡ false
not_own known print v other = step (issuer_among known v) refl where
  step : (o : Option Known) → issuer_among known v ≡ o → is_print print o ≡ false
  step None here = refl
  step (Some k) here = false_from_ne_true (is_print print (Some k)) (λ t. true≢false (sym (subst (λ (f : Fingerprint). has_name (issuer_of v) f ≡ true) (sym (one_print print k.print t)) (named_has known (issuer_of v) k here)) ∙ other))

-- ---- what names no key that may revoke
no_revoker : (s : Sub) → is_of_revoker s ≡ false → revoker_stated s ≡ None
no_revoker s e = rw e refl

none_revokes : (subs : List Sub) → list_any is_of_revoker subs ≡ false → revokers_in subs ≡ []
none_revokes [] e = refl
none_revokes (s ∷ subs) e =
    let both : (is_of_revoker s ≡ false) × (list_any is_of_revoker subs ≡ false) = or_false (is_of_revoker s) (list_any is_of_revoker subs) e in
    rw (no_revoker s both.0, none_revokes subs both.1) refl

-- ---- a row
either_way : {A : Type 0} (t : Bool) (x y : A) → x ≡ y → cond t x y ≡ y
either_way true x y e = e
either_way false x y e = refl

none_nested : (n : Option ℕ) → is_some n ≡ false → is_none n ≡ true
none_nested None e = refl
none_nested (Some n) e = absurd (true≢false e)

and_false : (a b : Bool) → (a && b) ≡ false → (a ≡ false) ⊎ (b ≡ false)
and_false true b e = inr e
and_false false b e = inl refl

module _ (known : List Known) (primary : Fingerprint) where
  -- it names no key that may revoke
  named_none : (v : SignatureValue) → (is_print primary (issuer_among known v) ≡ false) ⊎ (has_revokers (Ok v) ≡ false) → named_by known primary v ≡ []
  named_none v (inl e) = rw (e, and_right (names_revokers (type_in v)) false refl) refl
  named_none v (inr e) = either_way (names_revokers (type_in v) && is_print primary (issuer_among known v)) (map Four (revokers_in (hashed_subs v))) [] (ap (λ (l : List (List ℕ)). map Four l) (none_revokes (hashed_subs v) e))

  who : (v : SignatureValue) (n : Option ℕ) → ((is_some n || names_key primary (Ok v)) && has_revokers (Ok v)) ≡ false → (is_print primary (issuer_among known v) ≡ false) ⊎ (has_revokers (Ok v) ≡ false)
  who v n e = elim (and_false (is_some n || names_key primary (Ok v)) (has_revokers (Ok v)) e) [ inl a ↦ inl (not_own known primary v (or_false (is_some n) (names_key primary (Ok v)) a).1) | inr b ↦ inr b ]

  none_by : (s : Standing) (found : Verdict) (r : Result SignatureValue BodyFault) → ((is_some s.place.nested || names_key primary r) && has_revokers r) ≡ false → revokers_by known primary s found r ≡ []
  none_by s found (Err fault) e = refl
  none_by s found (Ok v) e = either_way (is_none s.place.nested && is_genuine s found v) (named_by known primary v) [] (named_none v (who v s.place.nested e))

  no_revokers : (f : Standing → Verdict) (rows : List Standing) → list_any (names_some (Some primary)) rows ≡ false → flat_map (revokers_at known primary) (map (λ s. (s, f s)) rows) ≡ []
  no_revokers f [] e = refl
  no_revokers f (s ∷ rows) e =
      let both : (names_some (Some primary) s ≡ false) × (list_any (names_some (Some primary)) rows ≡ false) = or_false (names_some (Some primary) s) (list_any (names_some (Some primary)) rows) e in
      rw (none_by s (f s) (signature_at s.body) both.0, no_revokers f rows both.1) refl

module _ (known : List Known) (policy : Policy) (primary : Fingerprint) where
  no_author : (k : Option Known) → is_print primary k ≡ false → author_of known policy primary [] k ≡ None
  no_author None e = refl
  no_author (Some k) e = rw e refl

  nothing_stated : (s : Standing) (v : SignatureValue) → is_print primary (issuer_among known v) ≡ false → stated known policy primary [] s.place s.subject v ≡ []
  nothing_stated s v e = either_way (is_some (signed_of v)) (stated_by known policy primary [] s.place s.subject v (author_of known policy primary [] (issuer_among known v))) [] (ap (stated_by known policy primary [] s.place s.subject v) (no_author (issuer_among known v) e))

  -- a signature that isn't looked at says nothing
  unheard_by : (s : Standing) (v : SignatureValue) (before : List Statement) → is_some s.place.nested ≡ false → is_print primary (issuer_among known v) ≡ false → told_by known policy primary [] s v before ≡ before
  unheard_by s v before outer other = rw (none_nested s.place.nested outer, nothing_stated s v other) (append-nil before)

  unheard : (s : Standing) (found : Verdict) (before : List Statement) (r : Result SignatureValue BodyFault) → (is_some s.place.nested || names_key primary r) ≡ false → told_with known policy primary [] before s found r ≡ before
  unheard s found before (Err fault) e = refl
  unheard s found before (Ok v) e =
      let both : (is_some s.place.nested ≡ false) × (names_key primary (Ok v) ≡ false) = or_false (is_some s.place.nested) (names_key primary (Ok v)) e in
      either_way (is_genuine s found v) (told_by known policy primary [] s v before) before (unheard_by s v before both.0 (not_own known primary v both.1))

  as_claimed : (before : List Statement) (s : Standing) → told known policy primary [] before (s, claim_heard (Some primary) s) ≡ told known policy primary [] before (s, claim s)
  as_claimed before s = step (is_heard (Some primary) s) refl where
    step : (t : Bool) → is_heard (Some primary) s ≡ t → told known policy primary [] before (s, cond t (claim s) Undecided) ≡ told known policy primary [] before (s, claim s)
    step true e = refl
    step false e = unheard s Undecided before (signature_at s.body) e ∙ sym (unheard s (claim s) before (signature_at s.body) e)

  all_as_claimed : (before : List Statement) (rows : List Standing) → fold (told known policy primary []) before (map (λ s. (s, claim_heard (Some primary) s)) rows) ≡ fold (told known policy primary []) before (map (λ s. (s, claim s)) rows)
  all_as_claimed before [] = refl
  all_as_claimed before (s ∷ rows) =
      ap (λ (b : List Statement). fold (told known policy primary []) b (map (λ (x : Standing). (x, claim_heard (Some primary) x)) rows)) (as_claimed before s)
      ∙ all_as_claimed (told known policy primary [] before (s, claim s)) rows

-- ---- a certificate
pub each_verdict : (f : Standing → Verdict) (more : List Verdict) (rows : List Standing) → with_verdicts (map f rows ++ more) rows ≡ map (λ s. (s, f s)) rows
each_verdict f more [] = refl
each_verdict f more (s ∷ rows) = ap (λ (l : List (Standing × Verdict)). (s, f s) ∷ l) (each_verdict f more rows)

just_verdicts : (f : Standing → Verdict) (rows : List Standing) → with_verdicts (map f rows) rows ≡ map (λ s. (s, f s)) rows
just_verdicts f rows = ap (λ (l : List Verdict). with_verdicts l rows) (sym (append-nil (map f rows))) ∙ each_verdict f [] rows

module _ (c : CertificateValue) where
  abbrev facts_from : (known : List Known) (policy : Policy) (rows : List (Standing × Verdict)) → FactsValue
  facts_from known policy rows = record {
    version = version_of c.primary.body;
    created = created_of c.primary.body;
    statements = with_revocations (fold (told known policy (print_of c.primary.body) (flat_map (revokers_at known (print_of c.primary.body)) rows)) [] rows);
  }

  pub all_serve : (founds : List Verdict) → founds ≡ map (claim_heard None) (certificate_standing 0 c) → SayTheSame c founds
  all_serve founds e known policy more =
      ap (facts_from known policy) (ap (λ (l : List Verdict). with_verdicts l (certificate_standing 0 c)) e ∙ just_verdicts claim (certificate_standing 0 c) ∙ sym (each_verdict claim more (certificate_standing 0 c)))

  bare : (known : List Known) (policy : Policy) (f : Standing → Verdict) → list_any (names_some (Some (print_of c.primary.body))) (certificate_standing 0 c) ≡ false
      → facts_from known policy (map (λ s. (s, f s)) (certificate_standing 0 c)) ≡ record {
        version = version_of c.primary.body;
        created = created_of c.primary.body;
        statements = with_revocations (fold (told known policy (print_of c.primary.body) []) [] (map (λ s. (s, f s)) (certificate_standing 0 c)));
      }
  bare known policy f none = rw (no_revokers known (print_of c.primary.body) f (certificate_standing 0 c) none) refl

  own_serve : (founds : List Verdict) → founds ≡ map (claim_heard (Some (print_of c.primary.body))) (certificate_standing 0 c) → list_any (names_some (Some (print_of c.primary.body))) (certificate_standing 0 c) ≡ false → SayTheSame c founds
  own_serve founds e none known policy more =
      let print : Fingerprint = print_of c.primary.body in
      let rows : List Standing = certificate_standing 0 c in
      ap (facts_from known policy) (ap (λ (l : List Verdict). with_verdicts l rows) e ∙ just_verdicts (claim_heard (Some print)) rows)
      ∙ bare known policy (claim_heard (Some print)) none
      ∙ ap (λ (l : List Statement). record { version = version_of c.primary.body; created = created_of c.primary.body; statements = with_revocations l }) (all_as_claimed known policy print [] rows)
      ∙ sym (bare known policy claim none)
      ∙ ap (facts_from known policy) (sym (each_verdict claim more rows))

  off : (b : Bool) → not b ≡ true → b ≡ false
  off true e = absurd (true≢false (sym e))
  off false e = refl

  -- where this is the fingerprint of the primary key
  pub heard_serve : (print : Fingerprint) (names : Bool) (founds : List Verdict) → print ≡ print_of c.primary.body → not names ≡ true
      → founds ≡ map (claim_heard (Some print)) (certificate_standing 0 c) → names ≡ list_any (names_some (Some print)) (certificate_standing 0 c) → SayTheSame c founds
  heard_serve print names founds same none e some =
      own_serve founds (e ∙ ap (λ (f : Fingerprint). map (claim_heard (Some f)) (certificate_standing 0 c)) same)
      (ap (λ (f : Fingerprint). list_any (names_some (Some f)) (certificate_standing 0 c)) (sym same) ∙ sym some ∙ off names none)

-- Which rows of a certificate revoke a key.
use Rattle.std.proofs.Common.{◌≡◌, ◌∙◌, ℕ, Bool, true, false, ◌&&◌, ◌||◌, List, [], ◌∷◌, ◌++◌, map, Option, Some, None, Result, Ok, Err, is_none, is_some, refl, sym, ap, if◌then◌else◌}
use Rattle.std.specs.List.{fold, list_any}
use Rattle.std.proofs.lemmas.List.Folds.{list_any-append}
use Rattle.opgp_octets.specs.declared.fault.BodyFault.{BodyFault}
use Rattle.opgp_octets.specs.declared.subpacket_kind.SubpacketKind.TheVariants as kind
use Rattle.opgp_packet.specs.Areas.{hashed_subs}
use Rattle.opgp_packet.specs.SignatureBody.{SignatureValue, signature_at}
use Rattle.opgp_hash.specs.SignedValue.{signed_of}
use Rattle.opgp_hash.specs.SubjectValue.{SubjectValue}
use Rattle.opgp_hash.specs.declared.fingerprints.Fingerprint.{Fingerprint}
use Rattle.opgp_report.specs.Standing.{Standing}
use Rattle.opgp_report.specs.declared.place.Place.{Place}
use Rattle.opgp_report.specs.declared.verifier.Verdict.{Verdict}
use Rattle.opgp_valid.specs.Group.{is_the}
use Rattle.opgp_valid.specs.KnownKeys.{issuer_among}
use Rattle.opgp_valid.specs.Standing.{is_revocation_of, revokes}
use Rattle.opgp_valid.specs.Subpackets.{lasts_in, numbers_in}
use Rattle.opgp_valid.specs.Told.{author_of, back_in, change_last, holds, is_genuine, is_revoked_among, life_by, lives_by, second_key, stated, stated_by, statement_of, told, told_by, told_with, type_in, with_back, with_embedded, with_revocations, with_revoked, with_verdicts}
use Rattle.opgp_valid.specs.declared.facts.Key.{Key}
use Rattle.opgp_valid.specs.declared.known_keys.Known.{Known}
use Rattle.opgp_valid.specs.declared.policy.Policy.{Policy}
use Rattle.opgp_valid.specs.declared.statement.Author.{Author}
use Rattle.opgp_valid.specs.declared.statement.Life.{Life}
use Rattle.opgp_valid.specs.declared.statement.Statement.{Statement}
use Rattle.opgp_valid.proofs.Renumbered.{any_map}
use Rattle.opgp_valid.proofs.Sayings.{or_assoc}

-- ---- tests
or_none : (a : Bool) → (a || false) ≡ a
or_none true = refl
or_none false = refl

or_itself : (a : Bool) → (a || a) ≡ a
or_itself true = refl
or_itself false = refl

-- of items of which each answers the same
pub of_alike : {A B : Type 0} (q : B → Bool) (f : A → B) (t : Bool) → ((x : A) → q (f x) ≡ t) → (x : A) (xs : List A) → list_any q (map f (x ∷ xs)) ≡ t
of_alike q f t same x [] = ap (λ (a : Bool). a || false) (same x) ∙ or_none t
of_alike q f t same x (y ∷ ys) =
    ap (λ (a : Bool). a || list_any q (map f (y ∷ ys))) (same x) ∙ ap (λ (a : Bool). t || a) (of_alike q f t same y ys) ∙ or_itself t

-- of a list whose last item is changed, where that answers the same
pub of_changed : {A : Type 0} (q : A → Bool) (f : A → A) → ((x : A) → q (f x) ≡ q x) → (xs : List A) → list_any q (change_last f xs) ≡ list_any q xs
of_changed q f same [] = refl
of_changed q f same (x ∷ []) = ap (λ (a : Bool). a || false) (same x)
of_changed q f same (x ∷ y ∷ ys) = ap (λ (a : Bool). q x || a) (of_changed q f same (y ∷ ys))

-- ---- statements
module _ (k : Key) where
  -- the life of what is embedded, and whether a certification is revoked, change nothing
  of_back : (place : Place) (life : Option Life) (s : Statement) → revokes k (with_back place life s) ≡ revokes k s
  of_back place life s = step (holds place s) refl where
    step : (t : Bool) → holds place s ≡ t → revokes k (with_back place life s) ≡ revokes k s
    step true e = rw e refl
    step false e = rw e refl

  of_marked : (ss : List Statement) → list_any (revokes k) (with_revocations ss) ≡ list_any (revokes k) ss
  of_marked ss = any_map (λ s. with_revoked (is_revoked_among ss s) s) (revokes k) (revokes k) (λ s. refl) ss

  -- a signature is said at least once
  of_lives : (f : Option Life → Statement) (t : Bool) → ((life : Option Life) → revokes k (f life) ≡ t) → (lasts : ℕ) (made : List ℕ) → list_any (revokes k) (map f (lives_by lasts made)) ≡ t
  of_lives f t same lasts [] = of_alike (revokes k) f t same None []
  of_lives f t same lasts (m ∷ ms) = of_alike (revokes k) f t same (Some (life_by lasts m)) (map (λ n. Some (life_by lasts n)) ms)

-- ---- rows
module _ (known : List Known) (policy : Policy) (primary : Fingerprint) (revokers : List Fingerprint) (k : Key) where
  -- the signature of a row is a revocation of the key by somebody who may revoke it, and not embedded
  abbrev pub revokes_said : Standing → SignatureValue → Bool
  revokes_said s v = is_some (signed_of v) && (is_some (author_of known policy primary revokers (issuer_among known v)) && is_revocation_of k (type_in v) s.place.component)

  abbrev pub revokes_read : Standing → Verdict → Result SignatureValue BodyFault → Bool
  revokes_read s found (Err fault) = false
  revokes_read s found (Ok v) = is_genuine s found v && (is_none s.place.nested && revokes_said s v)

  abbrev pub revokes_row : Standing × Verdict → Bool
  revokes_row x = revokes_read x.0 x.1 (signature_at x.0.body)

  by_author : (place : Place) (subject : SubjectValue) (v : SignatureValue) (o : Option Author) → list_any (revokes k) (stated_by known policy primary revokers place subject v o) ≡ (is_some o && is_revocation_of k (type_in v) place.component)
  by_author place subject v None = refl
  by_author place subject v (Some by) =
      of_lives k (statement_of known policy primary revokers place subject v by) (is_revocation_of k (type_in v) place.component) (λ life. refl) (lasts_in kind.Expires (hashed_subs v)) (numbers_in kind.Created (hashed_subs v))

  of_stated : (s : Standing) (v : SignatureValue) → list_any (revokes k) (stated known policy primary revokers s.place s.subject v) ≡ revokes_said s v
  of_stated s v = go (is_some (signed_of v)) where
    who : Option Author
    who = author_of known policy primary revokers (issuer_among known v)

    go : (t : Bool) → list_any (revokes k) (if t then stated_by known policy primary revokers s.place s.subject v who else []) ≡ (t && (is_some who && is_revocation_of k (type_in v) s.place.component))
    go true = by_author s.place s.subject v who
    go false = refl

  of_embedded : (place : Place) (subkey : Option (List ℕ)) (v : SignatureValue) (before : List Statement) → list_any (revokes k) (with_embedded known policy primary revokers place subkey v before) ≡ list_any (revokes k) before
  of_embedded place subkey v before = go (is_the 0 place.nested) where
    life : Option Life
    life = back_in known policy primary subkey v

    go : (t : Bool) → list_any (revokes k) (if t then change_last (with_back place life) before else before) ≡ list_any (revokes k) before
    go true = of_changed (revokes k) (with_back place life) (of_back k place life) before
    go false = refl

  of_told_by : (s : Standing) (v : SignatureValue) (before : List Statement) → list_any (revokes k) (told_by known policy primary revokers s v before) ≡ (list_any (revokes k) before || (is_none s.place.nested && revokes_said s v))
  of_told_by s v before = go (is_none s.place.nested) where
    go : (t : Bool) → list_any (revokes k) (if t then before ++ stated known policy primary revokers s.place s.subject v else with_embedded known policy primary revokers s.place (second_key s.subject) v before)
        ≡ (list_any (revokes k) before || (t && revokes_said s v))
    go true =
        list_any-append (revokes k) before (stated known policy primary revokers s.place s.subject v)
        ∙ ap (λ (a : Bool). list_any (revokes k) before || a) (of_stated s v)
    go false = of_embedded s.place (second_key s.subject) v before ∙ sym (or_none (list_any (revokes k) before))

  of_told_with : (before : List Statement) (s : Standing) (found : Verdict) (r : Result SignatureValue BodyFault) → list_any (revokes k) (told_with known policy primary revokers before s found r) ≡ (list_any (revokes k) before || revokes_read s found r)
  of_told_with before s found (Err fault) = sym (or_none (list_any (revokes k) before))
  of_told_with before s found (Ok v) = go (is_genuine s found v) where
    go : (t : Bool) → list_any (revokes k) (if t then told_by known policy primary revokers s v before else before) ≡ (list_any (revokes k) before || (t && (is_none s.place.nested && revokes_said s v)))
    go true = of_told_by s v before
    go false = sym (or_none (list_any (revokes k) before))

  of_told : (before : List Statement) (rows : List (Standing × Verdict)) → list_any (revokes k) (fold (told known policy primary revokers) before rows) ≡ (list_any (revokes k) before || list_any revokes_row rows)
  of_told before [] = sym (or_none (list_any (revokes k) before))
  of_told before (x ∷ rows) =
      of_told (told known policy primary revokers before x) rows
      ∙ ap (λ (a : Bool). a || list_any revokes_row rows) (of_told_with before x.0 x.1 (signature_at x.0.body))
      ∙ or_assoc (list_any (revokes k) before) (revokes_row x) (list_any revokes_row rows)

  -- what they say revokes the key if one of them does
  pub revoked_by : (rows : List (Standing × Verdict)) → list_any (revokes k) (with_revocations (fold (told known policy primary revokers) [] rows)) ≡ list_any revokes_row rows
  revoked_by rows = of_marked k (fold (told known policy primary revokers) [] rows) ∙ of_told [] rows

-- ---- a verdict for each row
pub with_each : (f : Standing → Verdict) (rows : List Standing) → with_verdicts (map f rows) rows ≡ map (λ s. (s, f s)) rows
with_each f [] = refl
with_each f (s ∷ rows) = ap (λ (l : List (Standing × Verdict)). (s, f s) ∷ l) (with_each f rows)

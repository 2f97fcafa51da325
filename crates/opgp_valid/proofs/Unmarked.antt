-- What is told of signatures marks none as revoked.
use Rattle.std.proofs.Common.{◌≡◌, ◌∙◌, List, [], ◌∷◌, ◌++◌, Bool, true, false, ◌||◌, cond, map, Option, Some, None, Result, Ok, Err, is_none, is_some, refl, ap}
use Rattle.std.specs.List.{fold, list_any}
use Rattle.std.proofs.lemmas.Bool.{or_from}
use Rattle.std.proofs.lemmas.List.Folds.{list_any-append}
use Rattle.opgp_hash.specs.SubjectValue.{SubjectValue}
use Rattle.opgp_hash.specs.SignedValue.{signed_of}
use Rattle.opgp_hash.specs.declared.fingerprints.Fingerprint.{Fingerprint}
use Rattle.opgp_octets.specs.declared.fault.BodyFault.{BodyFault}
use Rattle.opgp_packet.specs.SignatureBody.{SignatureValue, signature_at}
use Rattle.opgp_report.specs.Standing.{Standing}
use Rattle.opgp_report.specs.declared.place.Place.{Place}
use Rattle.opgp_report.specs.declared.verifier.Verdict.{Verdict}
use Rattle.opgp_valid.specs.Group.{is_the}
use Rattle.opgp_valid.specs.Told.{author_of, back_in, change_last, holds, is_genuine, issuer, second_key, stated, stated_by, statement_of, lives_in, told, told_by, told_with, with_back, with_embedded}
use Rattle.opgp_valid.specs.declared.known_keys.Known.{Known}
use Rattle.opgp_valid.specs.declared.policy.Policy.{Policy}
use Rattle.opgp_valid.specs.declared.statement.Author.{Author}
use Rattle.opgp_valid.specs.declared.statement.Life.{Life}
use Rattle.opgp_valid.specs.declared.statement.Statement.{Statement}

-- none of these is marked as revoked
abbrev IsUnmarked : List Statement → Type 0
IsUnmarked ss = list_any (λ s. s.is_revoked) ss ≡ false

either : (t : Bool) (a b : List Statement) → IsUnmarked a → IsUnmarked b → IsUnmarked (cond t a b)
either true a b x y = x
either false a b x y = y

both : (a b : List Statement) → IsUnmarked a → IsUnmarked b → IsUnmarked (a ++ b)
both a b x y = list_any-append (λ s. s.is_revoked) a b ∙ or_from _ _ x y

-- a change that keeps whether one is revoked
changed : (f : Statement → Statement) → ((s : Statement) → (f s).is_revoked ≡ s.is_revoked) → (ss : List Statement) → list_any (λ s. s.is_revoked) (change_last f ss) ≡ list_any (λ s. s.is_revoked) ss
changed f same [] = refl
changed f same (s ∷ []) = ap (λ (t : Bool). t || false) (same s)
changed f same (s ∷ r ∷ ss) = ap (λ (t : Bool). s.is_revoked || t) (changed f same (r ∷ ss))

back_keeps : (place : Place) (life : Option Life) (s : Statement) → (with_back place life s).is_revoked ≡ s.is_revoked
back_keeps place life s = step (holds place s) refl where
  step : (t : Bool) → holds place s ≡ t → (with_back place life s).is_revoked ≡ s.is_revoked
  step true e = rw e refl
  step false e = rw e refl

module _ (known : List Known) (policy : Policy) (primary : Fingerprint) (revokers : List Fingerprint) where
  at_each : (place : Place) (subject : SubjectValue) (v : SignatureValue) (a : Author) (lives : List (Option Life)) → IsUnmarked (map (statement_of known policy primary revokers place subject v a) lives)
  at_each place subject v a [] = refl
  at_each place subject v a (l ∷ ls) = at_each place subject v a ls

  by_author : (place : Place) (subject : SubjectValue) (v : SignatureValue) (o : Option Author) → IsUnmarked (stated_by known policy primary revokers place subject v o)
  by_author place subject v None = refl
  by_author place subject v (Some a) = at_each place subject v a (lives_in v)

  stated_unmarked : (place : Place) (subject : SubjectValue) (v : SignatureValue) → IsUnmarked (stated known policy primary revokers place subject v)
  stated_unmarked place subject v = either (is_some (signed_of v)) _ [] (by_author place subject v (author_of known policy primary revokers (issuer known policy primary v))) refl

  told_by_unmarked : (s : Standing) (v : SignatureValue) (before : List Statement) → IsUnmarked before → IsUnmarked (told_by known policy primary revokers s v before)
  told_by_unmarked s v before h =
      either (is_none s.place.nested) (before ++ stated known policy primary revokers s.place s.subject v) (with_embedded known policy primary revokers s.place (second_key s.subject) v before)
      (both before (stated known policy primary revokers s.place s.subject v) h (stated_unmarked s.place s.subject v))
      (either (is_the 0 s.place.nested) (change_last (with_back s.place (back_in known policy primary (second_key s.subject) v)) before) before
      (changed (with_back s.place (back_in known policy primary (second_key s.subject) v)) (back_keeps s.place (back_in known policy primary (second_key s.subject) v)) before ∙ h) h)

  told_with_unmarked : (before : List Statement) (s : Standing) (found : Verdict) (r : Result SignatureValue BodyFault) → IsUnmarked before → IsUnmarked (told_with known policy primary revokers before s found r)
  told_with_unmarked before s found (Err fault) h = h
  told_with_unmarked before s found (Ok v) h = either (is_genuine s found v) (told_by known policy primary revokers s v before) before (told_by_unmarked s v before h) h

  pub told_unmarked : (rows : List (Standing × Verdict)) (before : List Statement) → list_any (λ s. s.is_revoked) before ≡ false → list_any (λ s. s.is_revoked) (fold (told known policy primary revokers) before rows) ≡ false
  told_unmarked [] before h = h
  told_unmarked (x ∷ rows) before h = told_unmarked rows (told known policy primary revokers before x) (told_with_unmarked before x.0 x.1 (signature_at x.0.body) h)

-- What other keys certify says nothing.
use Rattle.std.proofs.Common.{◌≡◌, ◌∙◌, ℕ, List, [], map, sym, ap}
use Rattle.std.specs.List.{filter, flat_map, fold}
use Rattle.opgp_hash.specs.declared.fingerprints.Fingerprint.{Fingerprint}
use Rattle.opgp_keyring.specs.Keyring.{CertificateValue}
use Rattle.opgp_report.specs.First.{print_of}
use Rattle.opgp_report.specs.Standing.{Standing, certificate_standing}
use Rattle.opgp_report.specs.declared.verifier.Verdict.{Verdict}
use Rattle.opgp_valid.specs.Judgement.{facts_by}
use Rattle.opgp_valid.specs.Laws.{own_verdicts}
use Rattle.opgp_valid.specs.Policy.{created_of, version_of}
use Rattle.opgp_valid.specs.Standing.{standing_of}
use Rattle.opgp_valid.specs.State.{identity_of, state_of}
use Rattle.opgp_valid.specs.Told.{revokers_at, revokers_of, statements_of, told, with_verdicts}
use Rattle.opgp_valid.specs.declared.facts.Key.{Key}
use Rattle.opgp_valid.specs.declared.known_keys.Known.{Known}
use Rattle.opgp_valid.specs.declared.policy.Policy.{Policy}
use Rattle.opgp_valid.specs.declared.statement.Statement.{Statement}
use Rattle.opgp_valid.proofs.Counting.{CountAlike, counts, identity_counts, revocations_count, standing_counts, state_counts}
use Rattle.opgp_valid.proofs.OwnRows.{certificate_counts, own, own_revokers, own_rows}

module _ (known : List Known) (policy : Policy) (c : CertificateValue) (founds : List Verdict) where
  abbrev primary : Fingerprint
  primary = print_of c.primary.body

  abbrev rows : List (Standing × Verdict)
  rows = with_verdicts founds (certificate_standing 0 c)

  abbrev owned : List (Standing × Verdict)
  owned = with_verdicts (own_verdicts known c founds) (certificate_standing 0 c)

  -- the rows that nothing is decided of
  owned_is : owned ≡ map (own known primary) rows
  owned_is = own_rows known primary founds (certificate_standing 0 c)

  same_revokers : revokers_of known c (own_verdicts known c founds) ≡ revokers_of known c founds
  same_revokers = ap (flat_map (revokers_at known primary)) owned_is ∙ own_revokers known primary rows

  -- all that is told, before it is looked at what is revoked
  abbrev all_told : List Fingerprint → List (Standing × Verdict) → List Statement
  all_told revokers xs = fold (told known policy primary revokers) [] xs

  told_alike : CountAlike (all_told (revokers_of known c (own_verdicts known c founds)) owned) (all_told (revokers_of known c founds) rows)
  told_alike =
      ap (λ (l : List Fingerprint). filter counts (all_told l owned)) same_revokers
      ∙ ap (λ (l : List (Standing × Verdict)). filter counts (all_told (revokers_of known c founds) l)) owned_is
      ∙ sym (certificate_counts known primary policy (revokers_of known c founds) c founds)

  statements_alike : CountAlike (statements_of known policy c (own_verdicts known c founds)) (statements_of known policy c founds)
  statements_alike = revocations_count (all_told (revokers_of known c (own_verdicts known c founds)) owned) (all_told (revokers_of known c founds) rows) told_alike

pub same_standing : (known : List Known) (policy : Policy) (c : CertificateValue) (founds : List Verdict) (k : Key) (made now : ℕ) → standing_of (facts_by known policy c (own_verdicts known c founds)) k made now ≡ standing_of (facts_by known policy c founds) k made now
same_standing known policy c founds k made now = standing_counts (statements_of known policy c (own_verdicts known c founds)) (statements_of known policy c founds) (statements_alike known policy c founds) (version_of c.primary.body) (created_of c.primary.body) k made now

pub same_state : (known : List Known) (policy : Policy) (c : CertificateValue) (founds : List Verdict) (k : Key) (at : ℕ) → state_of (facts_by known policy c (own_verdicts known c founds)) k at ≡ state_of (facts_by known policy c founds) k at
same_state known policy c founds k at = state_counts (statements_of known policy c (own_verdicts known c founds)) (statements_of known policy c founds) (statements_alike known policy c founds) (version_of c.primary.body) (created_of c.primary.body) k at

pub same_identities : (known : List Known) (policy : Policy) (c : CertificateValue) (founds : List Verdict) (n at : ℕ) → identity_of (facts_by known policy c (own_verdicts known c founds)) n at ≡ identity_of (facts_by known policy c founds) n at
same_identities known policy c founds n at = identity_counts (statements_of known policy c (own_verdicts known c founds)) (statements_of known policy c founds) (statements_alike known policy c founds) (version_of c.primary.body) (created_of c.primary.body) n at

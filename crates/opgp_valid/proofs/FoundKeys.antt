-- The judgement of a key that was found.
use Rattle.std.proofs.Common.{◌≡◌, ◌∙◌, ℕ, Some, List, ap, sym}
use Rattle.std.specs.List.{slice_get}
use Rattle.opgp_keyring.specs.Keyring.{CertificateValue, KeyringValue}
use Rattle.opgp_report.specs.declared.verifier.Verdict.{Verdict}
use Rattle.opgp_valid.specs.Facts.{FactsValue}
use Rattle.opgp_valid.specs.Judgement.{facts_by, judged, judged_in, judged_key, judgement_of, key_at, verdicts_from}
use Rattle.opgp_valid.specs.KnownKeys.{known_in}
use Rattle.opgp_valid.specs.Cause.{cause_of}
use Rattle.opgp_valid.specs.declared.facts.Key.{Key}
use Rattle.opgp_valid.specs.declared.judgement.KeyPlace.{KeyPlace}
use Rattle.opgp_valid.specs.declared.policy.Policy.{Policy}

pub found_judgement : (r : KeyringValue) (policy : Policy) (founds : List Verdict) (at : KeyPlace) (made now : ℕ) (c : CertificateValue) (vs : List Verdict) (k : Key) (f : FactsValue)
    → slice_get r.certificates at.certificate ≡ Some c → vs ≡ verdicts_from r.certificates at.certificate founds → Some k ≡ key_at c at.component → f ≡ facts_by (known_in r) policy c vs
    → judged (cause_of f k made now) ≡ judgement_of r policy founds at made now
found_judgement r policy founds at made now c vs k f here those key facts =
    ap (λ x. judged (cause_of x k made now)) facts
    ∙ ap (λ l. judged_key r policy l c made now (Some k)) those
    ∙ ap (λ o. judged_key r policy (verdicts_from r.certificates at.certificate founds) c made now o) key
    ∙ ap (λ o. judged_in r policy founds at made now o) (sym here)

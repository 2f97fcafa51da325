use Rattle.std.proofs.Common.{◌≡◌, ◌∙◌, ap, sym, ℕ, List, Result, Ok, Err, Some}
use Rattle.std.specs.Prelude.{IfOk}
use Rattle.std.specs.List.{slice_get}
use Rattle.opgp_keyring.specs.Keyring.{CertificateValue, KeyringValue}
use Rattle.opgp_report.specs.declared.verifier.Verdict.{Verdict}
use Rattle.opgp_valid.specs.Judgement.{judgement_of, verdicts_from}
use Rattle.opgp_valid.specs.KnownKeys.{known_in}
use Rattle.opgp_valid.specs.declared.judgement.Judgement.{Judgement}
use Rattle.opgp_valid.specs.declared.judgement.KeyPlace.{KeyPlace}
use Rattle.opgp_valid.specs.declared.known_keys.Known.{Known}
use Rattle.opgp_valid.specs.declared.policy.Policy.{Policy}
use Rattle.opgp_valid.proofs.judgement.judge_among.Goals as goal

-- by the keys of the keyring, in its certificate
by_known : {E : Type 0} (result : Result Judgement E) (known : List Known) (policy : Policy) (at : KeyPlace) (made now : ℕ) (c : CertificateValue) (vs : List Verdict)
    → IfOk result (λ j. (r : KeyringValue) (founds : List Verdict) → known ≡ known_in r → slice_get r.certificates at.certificate ≡ Some c → vs ≡ verdicts_from r.certificates at.certificate founds → j ≡ judgement_of r policy founds at made now)
    → (r : KeyringValue) (founds : List Verdict) → known ≡ known_in r → slice_get r.certificates at.certificate ≡ Some c → vs ≡ verdicts_from r.certificates at.certificate founds
    → IfOk result (λ j. j ≡ judgement_of r policy founds at made now)
by_known (Ok j) known policy at made now c vs h r founds e f g = h r founds e f g
by_known (Err e) known policy at made now c vs h r founds k f g = tt

pub returns : goal.returns
returns c =
    let all = c.certificates-certificates.ensures.value in
    by_known c.judge_in.result _ c.args.policy c.args.at c.args.made c.args.now c.in-Some.certificate.now c.in-Some.found.now c.judge_in.ensures c.args.keyring.now c.args.verdicts.now c.requires
    (ap (λ l. slice_get l c.args.at.certificate) (sym all) ∙ c.in-Some.ensures.0)
    (c.in-Some.ensures.1 ∙ ap (λ l. verdicts_from l c.args.at.certificate c.args.verdicts.now) all)

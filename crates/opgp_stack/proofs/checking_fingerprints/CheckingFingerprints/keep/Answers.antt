use Rattle.std.proofs.Common.{List, [], ◌∷◌, ◌++◌, sym, subst}
use Rattle.opgp_keyring.specs.Composed.{of_certificate}
use Rattle.opgp_keyring.specs.Keyring.{CertificateValue}
use Rattle.opgp_report.specs.Fingerprinting.{ReportsPrints}
use Rattle.opgp_report.specs.declared.fingerprinting.FingerprintedReporting.{FingerprintedReporting}
use Rattle.opgp_stack.specs.OnePart.{certificates_in}
use Rattle.opgp_stack.proofs.Looking.{certificate_push, lead_push}
use Rattle.opgp_stack.proofs.checking_fingerprints.CheckingFingerprints.keep.Goals as goal

pub returns-in_default : goal.returns-in_default
returns-in_default c = rw c.in_default.ensures.1 (λ parts h. subst (λ (cs : List CertificateValue). ReportsPrints c.args.self.now.rows cs) (sym (lead_push parts _)) h)

pub returns : goal.returns
returns c = rw c.in-Some.ensures (λ parts h. subst (λ (k : FingerprintedReporting). ReportsPrints k (certificates_in (parts ++ of_certificate c.in-Some.certificate ∷ []))) (sym c.replace.ensures.after) (subst (λ (cs : List CertificateValue). ReportsPrints c.in_ok-rows.field-0 cs) (sym (certificate_push parts c.in-Some.certificate))
    (c.in_ok-rows.ensures (certificates_in parts) (subst (λ (k : FingerprintedReporting). ReportsPrints k (certificates_in parts)) (sym c.replace-rows.ensures.value) h))))

use Rattle.std.proofs.Common.{List, [], ◌∷◌, ◌++◌, sym, subst}
use Rattle.opgp_keyring.specs.Composed.{of_certificate}
use Rattle.opgp_keyring.specs.Keyring.{CertificateValue}
use Rattle.opgp_report.specs.Reporting.{Reports}
use Rattle.opgp_report.specs.declared.reporting.Reporting.{Reporting}
use Rattle.opgp_stack.specs.OnePart.{certificates_in}
use Rattle.opgp_stack.proofs.Looking.{certificate_push, lead_push}
use Rattle.opgp_stack.proofs.checking.Checking.keep.Goals as goal

pub returns-in_default : goal.returns-in_default
returns-in_default c = rw c.in_default.ensures.1 (λ parts h. subst (λ (cs : List CertificateValue). Reports c.args.self.now.rows cs) (sym (lead_push parts _)) h)

pub returns : goal.returns
returns c = rw c.in-Some.ensures (λ parts h. subst (λ (k : Reporting). Reports k (certificates_in (parts ++ of_certificate c.in-Some.certificate ∷ []))) (sym c.replace.ensures.after) (subst (λ (cs : List CertificateValue). Reports c.in_ok-rows.field-0 cs) (sym (certificate_push parts c.in-Some.certificate))
    (c.in_ok-rows.ensures (certificates_in parts) (subst (λ (k : Reporting). Reports k (certificates_in parts)) (sym c.replace-rows.ensures.value) h))))

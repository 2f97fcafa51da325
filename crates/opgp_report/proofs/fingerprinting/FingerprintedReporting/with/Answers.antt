use Rattle.std.proofs.Common.{◌≡◌, ◌∙◌, List, [], ◌∷◌, ◌++◌, ap, rules}
use Rattle.opgp_hash.specs.declared.fingerprints.Fingerprint.{Fingerprint}
use Rattle.opgp_report.specs.First.{print_of}
use Rattle.opgp_report.proofs.Fingerprints.{one_more}
use Rattle.opgp_report.proofs.fingerprinting.FingerprintedReporting.with.Goals as goal

pub returns : goal.returns
returns c cs so =
    let old : List Fingerprint = c.args.self.primaries.items in
    let named : c.print_of-primary.result ≡ print_of c.args.certificate.now.primary.body = search rules in
    record {
      reports = c.in_ok-reporting.ensures cs so.reports;
      primaries = c.in_ok-push.ensures.items ∙ ap (λ (print : Fingerprint). old ++ print ∷ []) named ∙ one_more cs c.args.certificate.now old so.primaries;
    }

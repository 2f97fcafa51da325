use Rattle.std.proofs.Common.{◌∙◌, ℕ, List, ap, sym}
use Rattle.opgp_hash.specs.Fingerprint.{print_version}
use Rattle.opgp_report.specs.declared.issuer_name.IssuerName.{IssuerName}
use Rattle.opgp_report.specs.First.{first_by_print}
use Rattle.opgp_report.specs.IssuerName.{name_value}
use Rattle.opgp_report.specs.KeyIndex.{prints_shown}
use Rattle.opgp_report.specs.Signer.{named_in}
use Rattle.opgp_report.proofs.key_index.KeyIndex.find.Goals as goal

pub returns-in-Print : goal.returns-in-Print
returns-in-Print c =
    let prints = prints_shown c.args.self.now in
    c.first_by_fingerprint.ensures ∙ ap (λ (n : ℕ). first_by_print n c.octets.result.now prints) c.version.ensures
    ∙ ap (λ (o : List ℕ). first_by_print (print_version c.in-Print.print) o prints) c.octets.ensures.value
    ∙ ap (λ (name : IssuerName). named_in prints (name_value name)) (sym c.in-Print.is)

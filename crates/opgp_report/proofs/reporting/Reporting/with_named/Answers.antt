use Rattle.std.proofs.Common.{List, [], Ok, append-nil, refl, subst}
use Rattle.std.specs.declared.alloc.AllocError.{AllocError}
use Rattle.opgp_report.specs.RowMaker.{AddsUnsigned}
use Rattle.opgp_report.specs.Standing.{Standing, certificate_standing}
use Rattle.opgp_report.proofs.Reported.{none_added, one_more}
use Rattle.opgp_report.proofs.reporting.Reporting.with_named.Goals as goal

pub returns : goal.returns
returns c cs so =
    let here : List Standing = certificate_standing c.args.self.certificates c.args.certificate.now in
    let added : AddsUnsigned {E = AllocError} c.args.self.made here (Ok c.visit_certificate.new.visitor) =
    subst (λ (l : List Standing). AddsUnsigned {E = AllocError} c.args.self.made l (Ok c.visit_certificate.new.visitor)) (append-nil here)
    (c.in_ok-visit_certificate.ensures [] (Ok c.visit_certificate.new.visitor) (none_added AllocError c.visit_certificate.new.visitor)) in
    one_more AllocError c.args.self _ cs c.args.certificate.now refl c.in_ok-keys.ensures added so

use Rattle.std.proofs.Common.{rules, ◌∙◌, List, [], Ok, append-nil, sym, subst}
use Rattle.std.specs.declared.alloc.AllocError.{AllocError}
use Rattle.opgp_report.specs.Standing.{Standing, certificate_standing}
use Rattle.opgp_valid.specs.Gathering.{Names}
use Rattle.opgp_valid.specs.declared.naming.Namer.{Namer}
use Rattle.opgp_valid.proofs.naming.revokers_of.Goals as goal

pub returns : goal.returns
returns c =
    let here : List Standing = certificate_standing 0 c.args.certificate.now in
    let old : Namer = record { context = c.args.context; verdicts = c.args.verdicts; prints = c.new.result } in
    let added : Names {E = AllocError} old here (Ok c.visit_certificate.new.visitor) =
    subst (λ (l : List Standing). Names {E = AllocError} old l (Ok c.visit_certificate.new.visitor)) (append-nil here)
    (c.in_ok-visit_certificate.ensures [] (Ok c.visit_certificate.new.visitor) (sym (append-nil c.visit_certificate.new.visitor.prints.items))) in
    c.in_ok-index.ensures ∙ c.deref.ensures.value ∙ added ∙ search rules

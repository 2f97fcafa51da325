use Rattle.std.proofs.Common.{List, [], Ok}
use Rattle.opgp_report.specs.Standing.{Standing, certificate_standing}
use Rattle.opgp_state.proofs.Gathered.{of_list, of_none}
use Rattle.opgp_state.proofs.claims.claims_heard.Goals as goal

pub returns-clause-verdicts : goal.returns-clause-verdicts
returns-clause-verdicts c =
    let here : List Standing = certificate_standing 0 c.args.certificate.now in
    (of_list c.args.own c.new-claiming.result c.visit_certificate.new.visitor here c.new-claiming.ensures.own c.new-claiming.ensures.verdicts c.new-claiming.ensures.revokers
    (c.in_ok-visit_certificate.ensures [] (Ok c.visit_certificate.new.visitor) (of_none c.visit_certificate.new.visitor))).0

pub returns-clause-revokers : goal.returns-clause-revokers
returns-clause-revokers c =
    let here : List Standing = certificate_standing 0 c.args.certificate.now in
    (of_list c.args.own c.new-claiming.result c.visit_certificate.new.visitor here c.new-claiming.ensures.own c.new-claiming.ensures.verdicts c.new-claiming.ensures.revokers
    (c.in_ok-visit_certificate.ensures [] (Ok c.visit_certificate.new.visitor) (of_none c.visit_certificate.new.visitor))).1

use Rattle.std.proofs.Common.{rules, ◌≡◌, arith, refl}
use Rattle.opgp_packet.specs.SignatureBody.{signature_at}
use Rattle.opgp_report.proofs.finding.FinderVisitor.meet.Goals as goal

pub returns-in-Question-clause-shown : goal.returns-in-Question-clause-shown
returns-in-Question-clause-shown c body met more =
    let first : c.args.self.now.left ≡ 0 = search rules in
    rw (first, c.in-Question.ensures.exact (signature_at body) met) (omega arith, refl)

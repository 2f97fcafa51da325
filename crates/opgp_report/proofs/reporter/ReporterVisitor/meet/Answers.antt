use Rattle.std.proofs.Common.{rules, ◌∙◌, Ok, Err}
use Rattle.opgp_packet.specs.SignatureBody.{signature_at}
use Rattle.opgp_report.specs.Row.{row_value}
use Rattle.opgp_report.proofs.Unsigned.{one_seen}
use Rattle.opgp_report.proofs.reporter.ReporterVisitor.meet.Goals as goal

pub returns-in_ok-push-in-Question-clause-shown : goal.returns-in_ok-push-in-Question-clause-shown
returns-in_ok-push-in-Question-clause-shown g c body met more (Ok b) =
    rw (c.in-Question.ensures.exact (signature_at body) met) (λ h. h ∙ one_seen row_value c.args.self.now.rows.items c.push.new.self.items _ _ _ c.in_ok-push-in-Question.ensures.items (search rules))
returns-in_ok-push-in-Question-clause-shown g c body met more (Err refusal) = λ h. tt

use Rattle.std.proofs.Common.{rules, ◌∙◌, Ok, Err}
use Rattle.opgp_packet.specs.SignatureBody.{signature_at}
use Rattle.opgp_report.specs.IssuerName.{name_value}
use Rattle.opgp_report.specs.Row.{row_value}
use Rattle.opgp_report.proofs.Unsigned.{one_seen}
use Rattle.opgp_report.proofs.row_maker.RowMakerVisitor.meet.Goals as goal

pub returns-in_ok-push-in-Question-2-clause-shown : goal.returns-in_ok-push-in-Question-2-clause-shown
returns-in_ok-push-in-Question-2-clause-shown c body met more (Ok b) = rw (c.in-Question.ensures.exact (signature_at body) met) (λ h. record {
  rows_are = h.rows_are ∙ one_seen row_value c.args.self.now.rows.items c.push-in-Question.new.self.items _ _ _ c.in_ok-push-in-Question-2.ensures.items (search rules);
  names_are = h.names_are ∙ one_seen name_value c.args.self.now.issuers.items c.push.new.self.items _ _ _ c.in_ok-push-in-Question.ensures.items (search rules);
})
returns-in_ok-push-in-Question-2-clause-shown c body met more (Err refusal) = λ h. tt

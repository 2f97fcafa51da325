use Rattle.std.proofs.Common.{ℕ, List, Err, Ok, refl}
use Rattle.opgp_keyring.specs.SignedLiteral.{signed_packets}
use Rattle.opgp_keyring.specs.declared.signed_literal.SignedLiteral.{SignedLiteral}
use Rattle.opgp_codec.specs.Reading.{AnswerOf, Outcome, shown}
use Rattle.opgp_codec.specs.Signed.{AreSigned, message_label}
use Rattle.opgp_codec.proofs.Pulling.{of_all}
use Rattle.opgp_stack.specs.Running.{Refused, makes, message_made}
use Rattle.opgp_stack.specs.declared.task.Task.{Task}
use Rattle.opgp_stack.proofs.Runs.{ran_of}
use Rattle.opgp_stack.proofs.running.write_message_octets.Goals as goal

-- what is read
abbrev LiteralOf : Task → List ℕ → Outcome SignedLiteral → Type 0
LiteralOf task octets answer = AnswerOf message_label (AreSigned task.limits) task.mode task.limits octets (shown signed_packets answer)

pub returns-in-Ok-Literal : goal.returns-in-Ok-Literal
returns-in-Ok-Literal g c =
    ran_of (LiteralOf c.args.task.now) (λ fault. (refl, refl)) _ _ c.write_question_of-written.result c.in-Ok-Literal.message
    (λ octets h. (message_made c.args.explains c.args.row (signed_packets c.in-Ok-Literal.message), (Ok (signed_packets c.in-Ok-Literal.message), h, refl), c.write_question_of-written.ensures))
    (rw c.in-Ok-Literal.field-0-is at c.in-Ok-Literal.ensures) c.done.ensures

pub returns-in-Ok-Refused : goal.returns-in-Ok-Refused
returns-in-Ok-Refused g c =
    makes (of_all g.R.Source.left g.R.Source.has_failed c.args.reader.now c.read_signed.new.reader c.args.task.now.limits _ _ (λ octets h. (Refused c.in-Ok-Refused.fault, (Err c.in-Ok-Refused.fault, h, refl), (refl, refl))) (rw c.in-Ok-Refused.field-0-is at c.in-Ok-Refused.ensures))

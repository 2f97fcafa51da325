use Rattle.opgp_hash.specs.Question.{question_value}
use Rattle.opgp_hash.proofs.writing.write_octets.Goals as goal

pub returns-in_err-reserve-clause-reopens : goal.returns-in_err-reserve-clause-reopens
returns-in_err-reserve-clause-reopens c = c.written_question.ensures (question_value c.args.question.now) c.stands.ensures

pub returns-clause-reopens : goal.returns-clause-reopens
returns-clause-reopens c = c.written_question.ensures (question_value c.args.question.now) c.stands.ensures

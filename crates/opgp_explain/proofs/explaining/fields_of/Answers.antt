use Rattle.opgp_hash.specs.Question.{question_value}
use Rattle.opgp_explain.proofs.explaining.fields_of.Goals as goal

pub returns-clause-whole : goal.returns-clause-whole
returns-clause-whole c = c.fields_are_whole.ensures (question_value c.args.question.now) c.subject-subject.ensures.question

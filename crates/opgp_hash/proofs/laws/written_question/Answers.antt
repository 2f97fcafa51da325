use Rattle.opgp_hash.proofs.Again.{question_again}
use Rattle.opgp_hash.proofs.laws.written_question.Goals as goal

pub returns : goal.returns
returns c = question_again c.fields_are_read.ensures

use Rattle.opgp_hash.proofs.Questions.{one_question}
use Rattle.opgp_hash.proofs.laws.one_question.Goals as goal

pub returns : goal.returns
returns c = one_question c.fields_are_read.ensures

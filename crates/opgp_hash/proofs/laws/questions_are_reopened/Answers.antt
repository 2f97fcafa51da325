use Rattle.opgp_hash.proofs.Questions.{is_read, was_read}
use Rattle.opgp_hash.proofs.laws.questions_are_reopened.Goals as goal

pub returns : goal.returns
returns c = λ q o fits. (was_read c.fields_are_read.ensures q o fits, λ h. is_read c.fields_are_read.ensures q o h.0 h.1)

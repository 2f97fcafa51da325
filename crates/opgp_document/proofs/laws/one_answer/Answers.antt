use Rattle.opgp_document.proofs.OneAnswer.{one_answer}
use Rattle.opgp_document.proofs.laws.one_answer.Goals as goal

pub returns : goal.returns
returns c = λ o d a b h k. one_answer o d a b h k

use Rattle.opgp_frame.proofs.Answered.{some_answer as answered}
use Rattle.opgp_frame.proofs.laws.some_answer.Goals as goal

pub returns : goal.returns
returns c = answered

use Rattle.opgp_stack.proofs.Times.{one_time_said}
use Rattle.opgp_stack.proofs.laws.a_text_says_one_time.Goals as goal

pub returns : goal.returns
returns c = one_time_said

use Rattle.opgp_state.proofs.DateTexts.{one_time}
use Rattle.opgp_state.proofs.laws.a_date_is_that_of_one_time.Goals as goal

pub returns : goal.returns
returns c = one_time

use Rattle.opgp_state.proofs.DateTexts.{written}
use Rattle.opgp_state.proofs.laws.a_time_is_written_as_its_date.Goals as goal

pub returns : goal.returns
returns c = written

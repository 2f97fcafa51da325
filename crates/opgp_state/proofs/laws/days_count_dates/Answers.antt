use Rattle.opgp_state.proofs.Calendar.{dated}
use Rattle.opgp_state.proofs.DateTexts.{date_of_before}
use Rattle.opgp_state.proofs.laws.days_count_dates.Goals as goal

pub returns : goal.returns
returns c = record { counted = dated; found = date_of_before }

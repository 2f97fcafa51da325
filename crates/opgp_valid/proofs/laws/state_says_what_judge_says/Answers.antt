use Rattle.opgp_valid.proofs.StateReasons.{believed_is_usable, same_reason}
use Rattle.opgp_valid.proofs.laws.state_says_what_judge_says.Goals as goal

pub returns-clause-believed : goal.returns-clause-believed
returns-clause-believed c = believed_is_usable

pub returns-clause-reason : goal.returns-clause-reason
returns-clause-reason c = same_reason

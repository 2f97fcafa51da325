use Rattle.opgp_valid.proofs.Causes.{a_cause_has_its_reason}
use Rattle.opgp_valid.proofs.laws.a_cause_has_its_reason.Goals as goal

pub returns : goal.returns
returns c = a_cause_has_its_reason

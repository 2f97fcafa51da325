use Rattle.opgp_frame.proofs.Lists.{fault_stays}
use Rattle.opgp_frame.proofs.laws.a_fault_stays.Goals as goal

pub returns : goal.returns
returns c = fault_stays

use Rattle.opgp_frame.proofs.Lists.{one_fault as unique}
use Rattle.opgp_frame.proofs.laws.one_fault.Goals as goal

pub returns : goal.returns
returns c = unique

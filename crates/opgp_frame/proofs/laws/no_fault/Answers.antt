use Rattle.opgp_frame.proofs.Lists.{no_fault as never}
use Rattle.opgp_frame.proofs.laws.no_fault.Goals as goal

pub returns : goal.returns
returns c = never

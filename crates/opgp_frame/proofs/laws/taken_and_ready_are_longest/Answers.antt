use Rattle.opgp_frame.proofs.Lists.{Fed-longest}
use Rattle.opgp_frame.proofs.laws.taken_and_ready_are_longest.Goals as goal

pub returns : goal.returns
returns c limits block d given taken f = (f.rest, Fed-longest limits block d given taken f)

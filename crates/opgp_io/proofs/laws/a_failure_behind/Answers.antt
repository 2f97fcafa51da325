use Rattle.opgp_io.proofs.Added.{breaks_then}
use Rattle.opgp_io.proofs.laws.a_failure_behind.Goals as goal

pub returns : goal.returns
returns c = breaks_then

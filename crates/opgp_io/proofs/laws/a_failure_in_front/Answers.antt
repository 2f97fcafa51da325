use Rattle.opgp_io.proofs.Added.{breaks_more}
use Rattle.opgp_io.proofs.laws.a_failure_in_front.Goals as goal

pub returns : goal.returns
returns c = breaks_more

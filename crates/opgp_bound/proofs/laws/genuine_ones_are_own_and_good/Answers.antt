use Rattle.opgp_bound.proofs.Naming.{genuine_is}
use Rattle.opgp_bound.proofs.laws.genuine_ones_are_own_and_good.Goals as goal

pub returns : goal.returns
returns c = genuine_is

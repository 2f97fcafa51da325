use Rattle.opgp_difference.proofs.Applied.{nothing_told}
use Rattle.opgp_difference.proofs.laws.nothing_told_is_nothing_changed.Goals as goal

pub returns : goal.returns
returns c = nothing_told

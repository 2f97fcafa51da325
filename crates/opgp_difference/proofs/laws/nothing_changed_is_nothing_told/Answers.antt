use Rattle.opgp_difference.proofs.Applied.{nothing_changed}
use Rattle.opgp_difference.proofs.laws.nothing_changed_is_nothing_told.Goals as goal

pub returns : goal.returns
returns c = nothing_changed

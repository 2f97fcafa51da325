use Rattle.opgp_valid.proofs.Rule.{standing_is_stands}
use Rattle.opgp_valid.proofs.laws.standing_is_stands.Goals as goal

pub returns : goal.returns
returns c = standing_is_stands

use Rattle.std.proofs.Common.{◌∷◌}
use Rattle.opgp_explain.proofs.Told.{placed_first}
use Rattle.opgp_explain.proofs.laws.places_follow.Goals as goal

pub returns : goal.returns
returns c = λ before after f. placed_first before (f ∷ after)

use Rattle.opgp_frame.proofs.Lists.{Fed-longest, one_longest}
use Rattle.opgp_frame.proofs.laws.same_in_any_pieces.Goals as goal

pub returns : goal.returns
returns c limits block d e given taken others f g =
    (one_longest limits block given _ _ f.rest g.rest (Fed-longest limits block d given taken f) (Fed-longest limits block e given others g)).0

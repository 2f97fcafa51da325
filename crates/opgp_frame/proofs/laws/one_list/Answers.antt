use Rattle.std.proofs.Common.{[]}
use Rattle.opgp_frame.proofs.Lists.{Frames-longest, one_longest}
use Rattle.opgp_frame.proofs.laws.one_list.Goals as goal

pub returns : goal.returns
returns c limits block octets packets others f g =
    (one_longest limits block octets packets others [] [] (Frames-longest limits block octets packets f) (Frames-longest limits block octets others g)).0

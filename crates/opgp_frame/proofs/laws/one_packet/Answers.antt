use Rattle.opgp_frame.proofs.Unique.{one_packet as unique}
use Rattle.opgp_frame.proofs.laws.one_packet.Goals as goal

pub returns : goal.returns
returns c = unique

use Rattle.opgp_frame.proofs.Least.{packets_least}
use Rattle.opgp_frame.proofs.laws.two_octets_beside_each_body.Goals as goal

pub returns : goal.returns
returns c = packets_least

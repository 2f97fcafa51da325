use Rattle.opgp_frame.proofs.Lists.{spelled-packets}
use Rattle.opgp_frame.proofs.laws.spelled_without_places.Goals as goal

pub returns : goal.returns
returns c = spelled-packets

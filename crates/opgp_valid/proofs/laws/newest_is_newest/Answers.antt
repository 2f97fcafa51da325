use Rattle.opgp_valid.proofs.Newest.{newest_is_newest}
use Rattle.opgp_valid.proofs.laws.newest_is_newest.Goals as goal

pub returns : goal.returns
returns c = newest_is_newest

use Rattle.opgp_bound.proofs.Going.{going_outdated}
use Rattle.opgp_bound.proofs.newest_laws.what_goes_is_outdated.Goals as goal

pub returns : goal.returns
returns c = going_outdated

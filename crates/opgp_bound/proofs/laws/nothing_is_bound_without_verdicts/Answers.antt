use Rattle.opgp_bound.proofs.Without.{keyring_alone}
use Rattle.opgp_bound.proofs.laws.nothing_is_bound_without_verdicts.Goals as goal

pub returns : goal.returns
returns c = keyring_alone

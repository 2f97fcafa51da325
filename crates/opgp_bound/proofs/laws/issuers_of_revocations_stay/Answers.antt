use Rattle.opgp_bound.proofs.Issuing.{issuers_known}
use Rattle.opgp_bound.proofs.laws.issuers_of_revocations_stay.Goals as goal

pub returns : goal.returns
returns c = issuers_known

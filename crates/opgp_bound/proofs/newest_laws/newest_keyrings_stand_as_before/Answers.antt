use Rattle.opgp_bound.proofs.Throughout.{identity_throughout, same_known, state_throughout}
use Rattle.opgp_bound.proofs.newest_laws.newest_keyrings_stand_as_before.Goals as goal

pub returns-clause-known : goal.returns-clause-known
returns-clause-known c = same_known

pub returns-clause-key : goal.returns-clause-key
returns-clause-key c = λ r verdicts at i c m k few there here. state_throughout r verdicts at i c m few there here k

pub returns-clause-identity : goal.returns-clause-identity
returns-clause-identity c = λ r verdicts at i c m n few there here. identity_throughout r verdicts at i c m few there here n

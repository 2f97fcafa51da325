use Rattle.opgp_bound.proofs.Copies.{primary_revoked, subkey_revoked}
use Rattle.opgp_bound.proofs.laws.merging_is_careful.Goals as goal

pub returns-clause-primary : goal.returns-clause-primary
returns-clause-primary c = primary_revoked

pub returns-clause-subkey : goal.returns-clause-subkey
returns-clause-subkey c = subkey_revoked

use Rattle.opgp_bound.proofs.Rows.{bound_is_keyring}
use Rattle.opgp_bound.proofs.laws.bound_keyrings_are_keyrings.Goals as goal

pub returns : goal.returns
returns c = bound_is_keyring

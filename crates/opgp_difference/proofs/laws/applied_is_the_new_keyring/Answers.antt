use Rattle.opgp_difference.proofs.Applied.{applied_is}
use Rattle.opgp_difference.proofs.laws.applied_is_the_new_keyring.Goals as goal

pub returns : goal.returns
returns c = applied_is

use Rattle.opgp_bound.proofs.NewestKept.{newest_is_keyring}
use Rattle.opgp_bound.proofs.newest_laws.newest_keyrings_are_keyrings.Goals as goal

pub returns : goal.returns
returns c = newest_is_keyring

use Rattle.opgp_merge.proofs.Staying.{chosen_is_keyring}
use Rattle.opgp_merge.proofs.laws.chosen_keyrings_are_keyrings.Goals as goal

pub returns : goal.returns
returns c = chosen_is_keyring

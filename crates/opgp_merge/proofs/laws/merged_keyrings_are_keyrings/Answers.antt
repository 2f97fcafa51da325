use Rattle.opgp_merge.proofs.Kept.{merged_is_keyring}
use Rattle.opgp_merge.proofs.laws.merged_keyrings_are_keyrings.Goals as goal

pub returns : goal.returns
returns c = merged_is_keyring

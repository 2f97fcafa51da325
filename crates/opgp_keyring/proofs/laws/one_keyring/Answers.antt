use Rattle.opgp_keyring.proofs.Split.{one_keyring as unique}
use Rattle.opgp_keyring.proofs.laws.one_keyring.Goals as goal

pub returns : goal.returns
returns c = unique

use Rattle.opgp_keyring.proofs.Prefixes.{prefix}
use Rattle.opgp_keyring.proofs.laws.prefixes_are_keyrings.Goals as goal

pub returns : goal.returns
returns c = prefix

use Rattle.opgp_keyring.proofs.Gathered.{are_parts}
use Rattle.opgp_keyring.proofs.laws.parts_taken_are_a_keyrings.Goals as goal

pub returns : goal.returns
returns c = are_parts

use Rattle.opgp_keyring.proofs.HandedOut.{all_but_last}
use Rattle.opgp_keyring.proofs.laws.all_parts_but_the_last.Goals as goal

pub returns : goal.returns
returns c limits d given taken r fed k = all_but_last limits given _ r fed.handed k

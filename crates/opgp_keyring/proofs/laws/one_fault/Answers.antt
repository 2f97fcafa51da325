use Rattle.opgp_keyring.proofs.OneFault.{one_fault as unique}
use Rattle.opgp_keyring.proofs.laws.one_fault.Goals as goal

pub returns : goal.returns
returns c = unique c.one_body_fault.ensures

use Rattle.opgp_keyring.proofs.OneBodyFault.{one}
use Rattle.opgp_keyring.proofs.laws.one_body_fault.Goals as goal

pub returns : goal.returns
returns c = λ policy. one policy (record { fields = c.one_fault.ensures; signature = c.one_fault-2.ensures })

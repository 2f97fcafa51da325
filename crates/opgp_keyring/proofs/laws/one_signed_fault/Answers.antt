use Rattle.opgp_keyring.proofs.SignedLaws.{one_signed_fault as unique}
use Rattle.opgp_keyring.proofs.laws.one_signed_fault.Goals as goal

pub returns : goal.returns
returns c = λ policy. unique policy c.one_body_fault.ensures

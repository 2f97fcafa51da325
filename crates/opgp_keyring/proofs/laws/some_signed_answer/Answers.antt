use Rattle.opgp_keyring.proofs.SignedLaws.{some_signed_answer as answered}
use Rattle.opgp_keyring.proofs.laws.some_signed_answer.Goals as goal

pub returns : goal.returns
returns c = λ policy. answered policy (record { fields = c.some_answer.ensures; no_field = c.no_fault.ensures; signature = c.some_answer-2.ensures; no_signature = c.no_fault-2.ensures })

use Rattle.opgp_keyring.proofs.SomeAnswer.{some_answer as answered}
use Rattle.opgp_keyring.proofs.laws.some_answer.Goals as goal

pub returns : goal.returns
returns c = answered (record { fields = c.some_answer.ensures; no_field = c.no_fault.ensures; signature = c.some_answer-2.ensures; no_signature = c.no_fault-2.ensures })

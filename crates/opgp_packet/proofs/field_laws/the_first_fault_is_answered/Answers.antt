use Rattle.opgp_packet.proofs.GrammarLaws.{body_fault, body_refused}
use Rattle.opgp_packet.proofs.field_laws.the_first_fault_is_answered.Goals as goal

pub returns : goal.returns
returns c = λ grammar o f fits. (body_fault grammar o f fits, body_refused grammar o f fits)

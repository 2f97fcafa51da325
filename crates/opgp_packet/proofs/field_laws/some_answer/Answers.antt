use Rattle.opgp_packet.proofs.GrammarLaws.{some_answer}
use Rattle.opgp_packet.proofs.field_laws.some_answer.Goals as goal

pub returns : goal.returns
returns c = some_answer

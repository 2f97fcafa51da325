use Rattle.opgp_packet.proofs.GrammarLaws.{body_found, body_only}
use Rattle.opgp_packet.proofs.field_laws.fields_are_read.Goals as goal

pub returns : goal.returns
returns c = λ grammar fields o fits. (body_found grammar o fields fits, body_only grammar o fields)

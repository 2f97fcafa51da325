use Rattle.opgp_packet.proofs.SignatureLaws.{sig_fault, sig_refused}
use Rattle.opgp_packet.proofs.signature_laws.the_first_fault_is_answered.Goals as goal

pub returns : goal.returns
returns c = λ o f fits. (sig_fault o f fits, sig_refused o f fits)

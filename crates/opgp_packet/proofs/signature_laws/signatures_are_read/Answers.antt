use Rattle.opgp_packet.proofs.SignatureLaws.{sig_found, sig_only}
use Rattle.opgp_packet.proofs.signature_laws.signatures_are_read.Goals as goal

pub returns : goal.returns
returns c = λ value o fits. (sig_found o value fits, sig_only o value fits)

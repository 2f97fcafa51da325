use Rattle.opgp_packet.proofs.SignatureLaws.{one_value}
use Rattle.opgp_packet.proofs.signature_laws.one_signature.Goals as goal

pub returns : goal.returns
returns c = λ value other o fits. one_value o value other fits

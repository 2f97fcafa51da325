use Rattle.opgp_codec.specs.Signatures.{AreDetachedSignatures, signature_label}
use Rattle.opgp_codec.proofs.OneAnswer.{one_answer}
use Rattle.opgp_codec.proofs.OneTop.{one_detached}
use Rattle.opgp_codec.proofs.laws.one_list_of_signatures.Goals as goal

pub returns : goal.returns
returns c mode limits = one_answer signature_label (AreDetachedSignatures limits) (one_detached (record { whole = c.one_list_of_signatures.ensures; fault = c.one_detached_fault.ensures; no_fault = c.no_detached_fault.ensures }) limits) c.layers_are_one.ensures mode limits

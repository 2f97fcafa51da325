use Rattle.opgp_codec.specs.Signatures.{AreDetachedSignatures, signature_label}
use Rattle.opgp_codec.proofs.SomeAnswer.{some_answer, some_detached}
use Rattle.opgp_codec.proofs.laws.some_list_of_signatures.Goals as goal

pub returns : goal.returns
returns c mode limits = some_answer limits signature_label (AreDetachedSignatures limits) (some_detached c.some_detached_answer.ensures limits) c.layers_answer.ensures mode

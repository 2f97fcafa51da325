use Rattle.opgp_codec.specs.Signed.{AreSigned, message_label}
use Rattle.opgp_codec.proofs.SomeAnswer.{some_answer, some_signed}
use Rattle.opgp_codec.proofs.laws.some_signed_literal.Goals as goal

pub returns : goal.returns
returns c mode limits = some_answer limits message_label (AreSigned limits) (some_signed c.some_signed_answer.ensures limits) c.layers_answer.ensures mode

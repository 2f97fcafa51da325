use Rattle.opgp_codec.specs.Signed.{AreSigned, message_label}
use Rattle.opgp_codec.proofs.OneAnswer.{one_answer}
use Rattle.opgp_codec.proofs.OneTop.{one_signed}
use Rattle.opgp_codec.proofs.laws.one_signed_literal.Goals as goal

pub returns : goal.returns
returns c mode limits = one_answer message_label (AreSigned limits) (one_signed (record { whole = c.one_signed_literal.ensures; fault = c.one_signed_fault.ensures; no_fault = c.no_signed_fault.ensures }) limits) c.layers_are_one.ensures mode limits

use Rattle.opgp_cleartext.proofs.HandedOut.{handed_out}
use Rattle.opgp_cleartext.proofs.laws.handed_out_as_signed.Goals as goal

pub returns : goal.returns
returns c = λ most text d r h. handed_out most text d r h

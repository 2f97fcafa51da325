use Rattle.opgp_valid.proofs.MoreKnown.{more_known}
use Rattle.opgp_valid.proofs.laws.other_certificates_change_nothing.Goals as goal

pub returns : goal.returns
returns c = more_known

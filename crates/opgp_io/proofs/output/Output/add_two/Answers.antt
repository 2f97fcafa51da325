use Rattle.std.proofs.Common.{refl}
use Rattle.opgp_io.proofs.Extended.{extends_stop, extends_then}
use Rattle.opgp_io.proofs.output.Output.add_two.Goals as goal

pub returns-in_err-add : goal.returns-in_err-add
returns-in_err-add g c = extends_stop _ refl c.from_residual.ensures.0 c.in_err-add.ensures

pub returns : goal.returns
returns g c = extends_then refl c.in_ok-add.ensures c.add-2.ensures

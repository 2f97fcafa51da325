use Rattle.std.proofs.Common.{codes, refl}
use Rattle.opgp_io.proofs.Extended.{extends_stop, extends_then}
use Rattle.opgp_stack.proofs.listing.add_key.Goals as goal

pub returns-in_err-add_key_start : goal.returns-in_err-add_key_start
returns-in_err-add_key_start g c = extends_stop (codes "\n") refl c.from_residual.ensures.0 c.in_err-add_key_start.ensures

pub returns : goal.returns
returns g c = extends_then refl c.in_ok-add_key_start.ensures c.add.ensures

use Rattle.std.proofs.Common.{codes, refl}
use Rattle.opgp_io.proofs.Extended.{extends_stop, extends_then}
use Rattle.opgp_stack.proofs.digest_lines.add_asked_line.Goals as goal

pub returns-in_err-add_asked : goal.returns-in_err-add_asked
returns-in_err-add_asked g c = extends_stop (codes "\n") refl c.from_residual.ensures.0 c.in_err-add_asked.ensures

pub returns : goal.returns
returns g c = extends_then refl c.in_ok-add_asked.ensures c.add.ensures

use Rattle.std.proofs.Common.{refl}
use Rattle.opgp_io.proofs.Extended.{extends_stop, extends_then}
use Rattle.opgp_stack.proofs.all_octets.RowTextText.add.Goals as goal

pub returns-in_err-add_row_line : goal.returns-in_err-add_row_line
returns-in_err-add_row_line g c = extends_stop c.args.self.octets.now refl c.from_residual.ensures.0 c.in_err-add_row_line.ensures

pub returns : goal.returns
returns g c = extends_then refl c.in_ok-add_row_line.ensures c.add.ensures

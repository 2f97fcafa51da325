use Rattle.opgp_io.proofs.Extended.{extends_stop, extends_then}
use Rattle.opgp_io.proofs.Texts.{escape_other}
use Rattle.opgp_io.proofs.output.Output.add_escape.Goals as goal

pub returns-in_err-add : goal.returns-in_err-add
returns-in_err-add g c = extends_stop _ (escape_other c.args.octet c.requires.other) c.from_residual.ensures.0 c.in_err-add.ensures

pub returns : goal.returns
returns g c = extends_then (escape_other c.args.octet c.requires.other) c.in_ok-add.ensures c.add_digits.ensures

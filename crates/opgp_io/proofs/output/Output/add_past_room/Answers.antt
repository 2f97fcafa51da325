use Rattle.std.proofs.Common.{refl}
use Rattle.opgp_io.proofs.Extended.{extends_stop, extends_then}
use Rattle.opgp_io.proofs.output.Output.add_past_room.Goals as goal

pub returns-in_err-finish : goal.returns-in_err-finish
returns-in_err-finish g c = extends_stop c.args.octets.now refl c.from_residual.ensures.0 c.in_err-finish.ensures.added

pub returns : goal.returns
returns g c = extends_then refl c.in_ok-finish.ensures.added c.add_first.ensures

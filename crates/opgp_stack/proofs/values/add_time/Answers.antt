use Rattle.std.proofs.Common.{refl}
use Rattle.opgp_io.proofs.Extended.{extends_stop, extends_then}
use Rattle.opgp_state.specs.Date.{date_words}
use Rattle.opgp_stack.proofs.values.add_time.Goals as goal

pub returns-in_err-add_seconds : goal.returns-in_err-add_seconds
returns-in_err-add_seconds g c = extends_stop (date_words c.args.time) refl c.from_residual.ensures.0 c.in_err-add_seconds.ensures

pub returns : goal.returns
returns g c = extends_then refl c.in_ok-add_seconds.ensures c.add_date.ensures

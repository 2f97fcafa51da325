use Rattle.std.proofs.Common.{codes, refl}
use Rattle.opgp_io.proofs.Extended.{extends_stop, extends_then}
use Rattle.opgp_state.specs.Date.{date_word}
use Rattle.opgp_state.proofs.date.add_date.Goals as goal

pub returns-in_err-add_date_word : goal.returns-in_err-add_date_word
returns-in_err-add_date_word g c = extends_stop {xs = date_word c.args.time} (codes "\n") refl c.from_residual.ensures.0 c.in_err-add_date_word.ensures

pub returns : goal.returns
returns g c = extends_then {xs = date_word c.args.time} {ys = codes "\n"} refl c.in_ok-add_date_word.ensures c.add.ensures

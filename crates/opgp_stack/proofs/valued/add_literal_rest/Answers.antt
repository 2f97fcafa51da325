use Rattle.std.proofs.Common.{refl}
use Rattle.opgp_io.proofs.Extended.{extends_stop, extends_then}
use Rattle.opgp_state.specs.Date.{date_words}
use Rattle.opgp_stack.proofs.valued.add_literal_rest.Goals as goal

pub returns-in_err-add_literal_words : goal.returns-in_err-add_literal_words
returns-in_err-add_literal_words g c = extends_stop (date_words c.args.date) refl c.from_residual.ensures.0 c.in_err-add_literal_words.ensures

pub returns : goal.returns
returns g c = extends_then refl c.in_ok-add_literal_words.ensures c.add_date.ensures

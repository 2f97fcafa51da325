use Rattle.std.proofs.Common.{refl}
use Rattle.opgp_io.proofs.Extended.{extends_stop, extends_then}
use Rattle.opgp_state.specs.Places.{place_words}
use Rattle.opgp_state.proofs.reporting.add_placed_row.Goals as goal

pub returns-in_err-add_fields : goal.returns-in_err-add_fields
returns-in_err-add_fields g c = extends_stop (place_words c.args.place) refl c.from_residual.ensures.0 c.in_err-add_fields.ensures

pub returns : goal.returns
returns g c = extends_then refl c.in_ok-add_fields.ensures c.add_place.ensures

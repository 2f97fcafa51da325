use Rattle.std.proofs.Common.{refl}
use Rattle.opgp_io.proofs.Extended.{extends_stop, extends_then}
use Rattle.opgp_stack.specs.Listing.{user_id_line}
use Rattle.opgp_stack.proofs.valued.add_user_id_fields.Goals as goal

pub returns-in_err-add : goal.returns-in_err-add
returns-in_err-add g c = extends_stop (user_id_line c.args.body.now) refl c.from_residual.ensures.0 c.in_err-add.ensures

pub returns : goal.returns
returns g c = extends_then refl c.in_ok-add.ensures c.add_user_id.ensures

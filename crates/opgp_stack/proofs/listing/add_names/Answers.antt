use Rattle.std.proofs.Common.{◌++◌, codes, refl}
use Rattle.hex.specs.Hex.{encode_upper}
use Rattle.opgp_io.proofs.Extended.{extends_stop, extends_then}
use Rattle.opgp_stack.proofs.listing.add_names.Goals as goal

pub returns-in_err-add_hex : goal.returns-in_err-add_hex
returns-in_err-add_hex g c = extends_stop (codes " " ++ encode_upper c.args.id.now) refl c.from_residual.ensures.0 c.in_err-add_hex.ensures

pub returns : goal.returns
returns g c = extends_then refl c.in_ok-add_hex.ensures c.add_id.ensures

use Rattle.std.proofs.Common.{refl}
use Rattle.opgp_packet.specs.Subs.{subs_to_come}
use Rattle.opgp_io.proofs.Extended.{extends_stop, extends_then}
use Rattle.opgp_stack.specs.Values.{valued_area}
use Rattle.opgp_stack.specs.declared.showing.Area.TheVariants.{Unhashed}
use Rattle.opgp_stack.proofs.valued.add_areas.Goals as goal

pub returns-in_err-add_area : goal.returns-in_err-add_area
returns-in_err-add_area g c = extends_stop (valued_area Unhashed (subs_to_come c.args.unhashed)) refl c.from_residual.ensures.0 c.in_err-add_area.ensures

pub returns : goal.returns
returns g c = extends_then refl c.in_ok-add_area.ensures c.add_area-2.ensures

use Rattle.std.proofs.Common.{ap}
use Rattle.opgp_packet.specs.Subs.{subs_to_come}
use Rattle.opgp_io.proofs.Extended.{extends_all_left, extends_broken_left, extends_less_left, extends_nothing_left}
use Rattle.opgp_stack.specs.Showing.{area_lines}
use Rattle.opgp_stack.proofs.showing.add_area.Goals as goal

pub subpackets-init : goal.subpackets-init
subpackets-init g c = extends_all_left c.requires

pub subpackets-preserved : goal.subpackets-preserved
subpackets-preserved g c = extends_less_left c.subpackets.invariant (ap (area_lines c.args.area) c.in-Some.ensures.steps) c.in_ok-add_subpacket.ensures

pub returns-in_err-add_subpacket : goal.returns-in_err-add_subpacket
returns-in_err-add_subpacket g c =
    extends_broken_left (area_lines c.args.area (subs_to_come c.next.new.self)) c.subpackets.invariant (ap (area_lines c.args.area) c.in-Some.ensures.steps) c.from_residual.ensures.0 c.in_err-add_subpacket.ensures

pub returns : goal.returns
returns g c = extends_nothing_left c.subpackets.invariant (ap (area_lines c.args.area) c.in_default.ensures.steps.0)

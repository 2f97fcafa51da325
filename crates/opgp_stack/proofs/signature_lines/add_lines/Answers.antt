use Rattle.std.proofs.Common.{ap}
use Rattle.opgp_keyring.specs.DetachedSignatures.{detached_left}
use Rattle.opgp_io.proofs.Extended.{extends_all_left, extends_broken_left, extends_less_left, extends_nothing_left}
use Rattle.opgp_stack.specs.ValuedListing.{valued_listing}
use Rattle.opgp_stack.proofs.signature_lines.add_lines.Goals as goal

pub packets-init : goal.packets-init
packets-init g c = extends_all_left c.requires

pub packets-preserved : goal.packets-preserved
packets-preserved g c = extends_less_left c.packets.invariant (ap valued_listing c.in-Some.ensures) c.in_ok-add_valued_line.ensures

pub returns-in_err-add_valued_line : goal.returns-in_err-add_valued_line
returns-in_err-add_valued_line g c =
    extends_broken_left (valued_listing (detached_left c.next.new.self)) c.packets.invariant (ap valued_listing c.in-Some.ensures) c.from_residual.ensures.0 c.in_err-add_valued_line.ensures

pub returns : goal.returns
returns g c = extends_nothing_left c.packets.invariant (ap valued_listing c.in_default.ensures.0)

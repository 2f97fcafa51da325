use Rattle.std.proofs.Common.{ap, sym}
use Rattle.opgp_keyring.specs.Member.{member_packet}
use Rattle.opgp_keyring.specs.Packets.{packets_left}
use Rattle.opgp_io.proofs.Extended.{extends_all_left, extends_broken_left, extends_less_left, extends_nothing_left}
use Rattle.opgp_stack.specs.Listing.{listing}
use Rattle.opgp_stack.proofs.listing.add_listing.Goals as goal

pub packets-init : goal.packets-init
packets-init g c = extends_all_left c.requires

pub packets-preserved : goal.packets-preserved
packets-preserved g c = extends_less_left c.packets.invariant (ap listing c.in-Some.ensures) (c.in_ok-add_content.ensures (member_packet c.in-Some.packet) (sym c.content.ensures.kind) (sym c.content.ensures.octets))

pub returns-in_err-add_content : goal.returns-in_err-add_content
returns-in_err-add_content g c =
    extends_broken_left (listing (packets_left c.next.new.self)) c.packets.invariant (ap listing c.in-Some.ensures) c.from_residual.ensures.0 (c.in_err-add_content.ensures (member_packet c.in-Some.packet) (sym c.content.ensures.kind) (sym c.content.ensures.octets))

pub returns : goal.returns
returns g c = extends_nothing_left c.packets.invariant (ap listing c.in_default.ensures.0)

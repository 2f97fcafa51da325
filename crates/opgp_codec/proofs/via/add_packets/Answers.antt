use Rattle.std.proofs.Common.{[], List, ℕ, ap, append-nil, refl, sym}
use Rattle.opgp_frame.specs.Packet.{packets_octets, spelling}
use Rattle.opgp_keyring.specs.Member.{member_packet}
use Rattle.opgp_keyring.specs.Packets.{packets_left}
use Rattle.opgp_io.proofs.Rows.{broken_at}
use Rattle.opgp_codec.proofs.Ways.{via_all_left, via_less_left, via_broken, via_broken_left, via_then}
use Rattle.opgp_codec.proofs.via.add_packets.Goals as goal

pub packets-init : goal.packets-init
packets-init g c = via_all_left c.requires

pub packets-preserved : goal.packets-preserved
packets-preserved g c = via_less_left c.packets.invariant (ap packets_octets c.in-Some.ensures) (rw c.if-not-hold_one.false at c.hold_one.ensures)

pub packets-preserved-in-Continue-1 : goal.packets-preserved-in-Continue-1
packets-preserved-in-Continue-1 g c =
    via_less_left c.packets.invariant (ap packets_octets c.in-Some.ensures) (via_then refl (rw c.if-not-hold_one.true at c.hold_one.ensures) c.in_ok-add_packet.ensures)

pub returns-in_err-add_packet : goal.returns-in_err-add_packet
returns-in_err-add_packet g c =
    let octets : List ℕ = spelling (member_packet c.in-Some.packet) in
    broken_at _ c.from_residual.result c.from_residual.ensures.0
    (via_broken_left (packets_octets (packets_left c.next.new.self)) c.packets.invariant (ap packets_octets c.in-Some.ensures) (via_broken [] (sym (append-nil octets)) (rw c.if-not-hold_one.true at c.hold_one.ensures) c.in_err-add_packet.ensures))

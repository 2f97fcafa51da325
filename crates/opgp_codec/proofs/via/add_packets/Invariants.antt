use Rattle.std.proofs.Common.{length}
use Rattle.opgp_frame.specs.Packet.{packets_octets}
use Rattle.opgp_keyring.specs.Packets.{packets_left}
use Rattle.opgp_codec.proofs.Ways.{ViaAllBut}
use Rattle.opgp_codec.proofs.via.add_packets.Given as goal

-- all packets are added but those that are left
abbrev pub invariant-packets : goal.invariant-packets
invariant-packets g l = ViaAllBut g.W.Sink.held g.W.Sink.has_failed l.fn.output l.fn.armoring l.output l.armoring (packets_octets (packets_left l.packets)) (packets_octets (packets_left l.initial.packets))

abbrev pub decreases-packets : goal.decreases-packets
decreases-packets g l = length (packets_octets (packets_left l.packets))

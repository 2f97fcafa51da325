use Rattle.std.proofs.Common.{length}
use Rattle.opgp_frame.specs.Packet.{packets_octets}
use Rattle.opgp_keyring.specs.Packets.{packets_left}
use Rattle.opgp_state.proofs.Fed.{FedAllBut}
use Rattle.opgp_state.proofs.keyring_digest.feed_packets.Given as goal

-- the hasher was fed all packets but those that are left
abbrev pub invariant-packets : goal.invariant-packets
invariant-packets g l = FedAllBut g.D.Digest.holds l.fn.hasher l.hasher (packets_octets (packets_left l.packets)) (packets_octets (packets_left l.initial.packets))

abbrev pub decreases-packets : goal.decreases-packets
decreases-packets g l = length (packets_left l.packets)

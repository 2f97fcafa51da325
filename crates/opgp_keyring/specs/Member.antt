-- A packet of a keyring, borrowed, and those that are left to be visited.
use Rattle.std.specs.Prelude.{List}
use Rattle.opgp_frame.specs.Packet.{PacketValue}
use Rattle.opgp_keyring.specs.declared.member.Member.{Member}
use Rattle.opgp_keyring.specs.declared.members.Members.{Members}
use Rattle.opgp_keyring.specs.Header.{packet_with, packets_with}

-- the packet as it is framed
abbrev pub member_packet : Member → PacketValue
member_packet m = packet_with m.header m.body.now

-- the packets that are left, in order
abbrev pub members_left : Members → List PacketValue
members_left m = packets_with m.bodies.now m.headers.now

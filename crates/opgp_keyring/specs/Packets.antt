-- The packets of a keyring that are left to be visited.
use Rattle.std.specs.Prelude.{List, ◌++◌}
use Rattle.std.specs.List.{flat_map}
use Rattle.opgp_frame.specs.Packet.{PacketValue}
use Rattle.opgp_keyring.specs.Keyring.{certificate_packets}
use Rattle.opgp_keyring.specs.Member.{members_left}
use Rattle.opgp_keyring.specs.declared.packets.Packets.{Packets}

-- the packets that are left, in order
abbrev pub packets_left : Packets → List PacketValue
packets_left p = members_left p.members ++ flat_map certificate_packets p.certificates.now

-- The value of detached signatures.
use Rattle.std.specs.Prelude.{List}
use Rattle.opgp_frame.specs.Packet.{PacketValue}
use Rattle.opgp_keyring.specs.declared.detached_packets.DetachedPackets.{DetachedPackets}
use Rattle.opgp_keyring.specs.declared.detached_signatures.DetachedSignatures.{DetachedSignatures}

-- all their packets, in order
abbrev pub detached_packets : DetachedSignatures → List PacketValue
detached_packets d = d.flat.items

-- those that are left to be visited, in order
abbrev pub detached_left : DetachedPackets → List PacketValue
detached_left d = d.packets.now

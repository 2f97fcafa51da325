use Rattle.std.proofs.Common.{◌≡◌, ◌+◌, ◌-◌, ◌≤◌, length, take}
use Rattle.opgp_codec.specs.Items.{left_of}
use Rattle.opgp_codec.specs.PacketReader.{IsUsed, PacketUse, given, octets_given, taken_count}
use Rattle.opgp_codec.proofs.Readers.{AreFound}
use Rattle.opgp_codec.proofs.packet_reader.PacketReader.push.Given as goal

-- the octets before `at` were given, and the packets that they complete were kept
abbrev pub invariant-steps : goal.invariant-steps
invariant-steps l = record {
  within : l.at ≤ length l.piece;
  used : (u : PacketUse) → IsUsed u l.fn.self → AreFound (given u (take l.at l.piece)) l.self;
  counted : taken_count l.self ≡ taken_count l.fn.self;
  count : octets_given l.self ≡ octets_given l.fn.self + l.at;
}

abbrev pub decreases-steps : goal.decreases-steps
decreases-steps l = left_of l.self.items (length l.piece - l.at)

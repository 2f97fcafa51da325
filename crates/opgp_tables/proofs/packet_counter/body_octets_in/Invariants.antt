use Rattle.std.proofs.Common.{◌≡◌, ◌+◌, ◌≤◌, length}
use Rattle.opgp_keyring.specs.Member.{members_left}
use Rattle.opgp_tables.specs.Packets.{bodies}
use Rattle.opgp_tables.specs.Sizes.{capped}
use Rattle.opgp_tables.proofs.packet_counter.body_octets_in.Given as goal

-- the octets so far, and those that are to come, are all
abbrev pub invariant-members : goal.invariant-members
invariant-members l = record {
  octets : capped (l.octets + length (bodies (members_left l.members)))
      ≡ capped (length (bodies (members_left l.initial.members)));
  most : l.octets ≤ 18446744073709551615;
}

abbrev pub decreases-members : goal.decreases-members
decreases-members l = length (members_left l.members)

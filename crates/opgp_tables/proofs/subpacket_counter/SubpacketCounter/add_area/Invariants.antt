use Rattle.std.proofs.Common.{◌≡◌, ◌+◌, ◌≤◌, length}
use Rattle.opgp_packet.specs.Subs.{subs_to_come}
use Rattle.opgp_tables.specs.Sizes.{capped}
use Rattle.opgp_tables.specs.Subpackets.{area_octets}
use Rattle.opgp_tables.proofs.subpacket_counter.SubpacketCounter.add_area.Given as goal

-- the rows and octets so far, and those that are to come, are all
abbrev pub invariant-subpackets : goal.invariant-subpackets
invariant-subpackets l = record {
  rows : capped (l.rows + length (subs_to_come l.subpackets)) ≡ capped (length (subs_to_come l.initial.subpackets));
  bytes : capped (l.bytes + length (area_octets (subs_to_come l.subpackets))) ≡ capped (length (area_octets (subs_to_come l.initial.subpackets)));
  most_rows : l.rows ≤ 18446744073709551615;
  most_bytes : l.bytes ≤ 18446744073709551615;
}

abbrev pub decreases-subpackets : goal.decreases-subpackets
decreases-subpackets l = length (subs_to_come l.subpackets)

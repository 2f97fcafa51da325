use Rattle.std.proofs.Common.{◌≡◌, ◌+◌, ◌≤◌, length}
use Rattle.opgp_packet.specs.Subs.{subs_to_come}
use Rattle.opgp_report.specs.Standing.{held_bodies}
use Rattle.opgp_bound.proofs.embedded.embedded_in_area.Given as goal

abbrev pub invariant-subpackets : goal.invariant-subpackets
invariant-subpackets l = record {
  count : l.number + length (held_bodies (subs_to_come l.subpackets)) ≡ length (held_bodies (subs_to_come l.initial.subpackets));
  few : l.number + length (subs_to_come l.subpackets) ≤ 4294967295;
}

abbrev pub decreases-subpackets : goal.decreases-subpackets
decreases-subpackets l = length (subs_to_come l.subpackets)

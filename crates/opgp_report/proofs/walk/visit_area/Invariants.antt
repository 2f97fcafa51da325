use Rattle.std.proofs.Common.{◌≡◌, ◌+◌, ◌≤◌, length}
use Rattle.opgp_hash.specs.CertificateHasher.{hasher_subject}
use Rattle.opgp_packet.specs.Subs.{subs_to_come}
use Rattle.opgp_report.specs.Standing.{by_number, held_bodies, nested_standing}
use Rattle.opgp_report.specs.Visitor.{Leaves}
use Rattle.opgp_report.proofs.walk.visit_area.Given as goal

abbrev pub invariant-subpackets : goal.invariant-subpackets
invariant-subpackets g l = record {
  shown : Leaves g.V.Visitor.becomes
      l.fn.visitor (by_number (nested_standing l.place (hasher_subject l.fn.hasher)) l.first (held_bodies (subs_to_come l.initial.subpackets)))
      l.visitor (by_number (nested_standing l.place (hasher_subject l.hasher)) l.number (held_bodies (subs_to_come l.subpackets)));
  subject : hasher_subject l.hasher ≡ hasher_subject l.fn.hasher;
  count : l.number + length (held_bodies (subs_to_come l.subpackets)) ≡ l.first + length (held_bodies (subs_to_come l.initial.subpackets));
  few : l.number + length (subs_to_come l.subpackets) ≤ l.first + length (subs_to_come l.initial.subpackets);
}

abbrev pub decreases-subpackets : goal.decreases-subpackets
decreases-subpackets g l = length (subs_to_come l.subpackets)

use Rattle.std.proofs.Common.{◌≡◌, ◌+◌, length}
use Rattle.opgp_hash.specs.CertificateHasher.{hasher_subject}
use Rattle.opgp_keyring.specs.Grouped.{hangs_left}
use Rattle.opgp_report.specs.Standing.{by_number, hang_standing, hangs_standing}
use Rattle.opgp_report.specs.Visitor.{Leaves}
use Rattle.opgp_report.proofs.walk.visit_hangs.Given as goal

abbrev pub invariant-hangs : goal.invariant-hangs
invariant-hangs g l = record {
  shown : Leaves g.V.Visitor.becomes
      l.fn.visitor (hangs_standing l.certificate l.component (hasher_subject l.fn.hasher) (hangs_left l.initial.hangs))
      l.visitor (by_number (hang_standing l.certificate l.component (hasher_subject l.hasher)) l.number (hangs_left l.hangs));
  subject : hasher_subject l.hasher ≡ hasher_subject l.fn.hasher;
  count : l.number + length (hangs_left l.hangs) ≡ length (hangs_left l.initial.hangs);
}

abbrev pub decreases-hangs : goal.decreases-hangs
decreases-hangs g l = length (hangs_left l.hangs)

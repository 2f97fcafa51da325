use Rattle.std.proofs.Common.{◌≡◌, ◌+◌, length}
use Rattle.opgp_report.specs.Standing.{by_number, certificate_standing, standing_in}
use Rattle.opgp_report.specs.Visitor.{Leaves}
use Rattle.opgp_report.proofs.walk.visit.Given as goal

abbrev pub invariant-certificates : goal.invariant-certificates
invariant-certificates g l = record {
  shown : Leaves g.V.Visitor.becomes l.fn.visitor (standing_in l.fn.keyring) l.visitor (by_number certificate_standing l.number l.rest);
  count : l.number + length l.rest ≡ length l.fn.keyring.certificates;
}

abbrev pub decreases-certificates : goal.decreases-certificates
decreases-certificates g l = length l.rest

use Rattle.std.proofs.Common.{arith, refl}
use Rattle.opgp_valid.proofs.WalkOn.{reached_next}
use Rattle.opgp_valid.proofs.reached.go_on.Goals as goal

pub certificates-preserved : goal.certificates-preserved
certificates-preserved c = record {
  reached = λ all founds h. reached_next all founds c.certificates.reached _ _ _ (c.certificates.invariant.reached all founds h) c.in-Some.ensures.cases.0 refl refl c.verdicts_behind.ensures;
  before = λ _. omega (arith, c.certificates-test.true);
}

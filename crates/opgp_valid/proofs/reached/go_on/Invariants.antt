use Rattle.std.proofs.Common.{◌≤◌, ◌-◌, List}
use Rattle.opgp_keyring.specs.Keyring.{CertificateValue}
use Rattle.opgp_report.specs.declared.verifier.Verdict.{Verdict}
use Rattle.opgp_valid.specs.Reached.{IsReached}
use Rattle.opgp_valid.proofs.reached.go_on.Given as goal

-- it is further on, and not past the number
abbrev pub invariant-certificates : goal.invariant-certificates
invariant-certificates l = record {
  reached : (all : List CertificateValue) (founds : List Verdict) → IsReached all founds l.fn.from → IsReached all founds l.reached;
  before : l.fn.from.number ≤ l.fn.number → l.reached.number ≤ l.fn.number;
}

abbrev pub decreases-certificates : goal.decreases-certificates
decreases-certificates l = l.fn.number - l.reached.number

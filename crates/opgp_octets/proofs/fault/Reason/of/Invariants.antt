use Rattle.std.proofs.Common.{◌≡◌, drop}
use Rattle.opgp_octets.specs.Fault.{reason_number, reason_of}
use Rattle.opgp_octets.specs.Rows.{with_number}
use Rattle.opgp_octets.specs.declared.fault.TheConstants.Reason.{ALL}
use Rattle.opgp_octets.proofs.fault.Reason.of.Given as goal

abbrev pub invariant-loop-reason : goal.invariant-loop-reason
invariant-loop-reason l = with_number reason_number l.number (drop l.reason-index ALL) ≡ reason_of l.number

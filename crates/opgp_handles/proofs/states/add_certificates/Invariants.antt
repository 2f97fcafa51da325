use Rattle.std.proofs.Common.{◌≡◌, ◌+◌, ◌++◌, length}
use Rattle.opgp_valid.specs.KnownKeys.{knowns}
use Rattle.opgp_handles.specs.States.{rows_from}
use Rattle.opgp_handles.proofs.states.add_certificates.Given as goal

-- the rows so far, and those that are to come, are all
abbrev pub invariant-certificates : goal.invariant-certificates
invariant-certificates l = record {
  rows : l.rows.items ++ rows_from (knowns l.known) l.policy l.at l.number l.rest l.found
      ≡ l.fn.rows.items ++ rows_from (knowns l.fn.known) l.policy l.at 0 l.fn.certificates l.fn.verdicts;
  count : l.number + length l.rest ≡ length l.fn.certificates;
}

abbrev pub decreases-certificates : goal.decreases-certificates
decreases-certificates l = length l.rest

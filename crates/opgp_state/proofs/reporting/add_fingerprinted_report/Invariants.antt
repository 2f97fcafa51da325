use Rattle.std.proofs.Common.{◌+◌, ◌<◌, ◌^◌, length}
use Rattle.opgp_report.specs.Fingerprinting.{rows_to_come}
use Rattle.opgp_io.proofs.Extended.{ExtendsAllBut}
use Rattle.opgp_state.specs.Report.{fingerprinted_lines}
use Rattle.opgp_state.proofs.reporting.add_fingerprinted_report.Given as goal

-- all lines are added but those of the rows that are left
abbrev pub invariant-rows : goal.invariant-rows
invariant-rows g l = record {
  but : ExtendsAllBut g.W.Sink.held g.W.Sink.has_failed l.fn.output l.output (fingerprinted_lines l.number (rows_to_come l.rows)) (fingerprinted_lines 0 (rows_to_come l.initial.rows));
  few : l.number + length (rows_to_come l.rows) < 2 ^ 64;
}

abbrev pub decreases-rows : goal.decreases-rows
decreases-rows g l = length (rows_to_come l.rows)

use Rattle.std.proofs.Common.{◌≡◌, ◌+◌, length, map}
use Rattle.opgp_report.specs.Row.{row_value}
use Rattle.opgp_io.proofs.Extended.{ExtendsAllBut}
use Rattle.opgp_state.specs.Report.{report_lines}
use Rattle.opgp_state.proofs.reporting.add_report.Given as goal

-- all lines are added but those of the rows that are left
abbrev pub invariant-rows : goal.invariant-rows
invariant-rows g l = record {
  but : ExtendsAllBut g.W.Sink.held g.W.Sink.has_failed l.fn.output l.output (report_lines l.number (map row_value l.rest)) (report_lines 0 (map row_value l.fn.rows));
  count : l.number + length l.rest ≡ length l.fn.rows;
}

abbrev pub decreases-rows : goal.decreases-rows
decreases-rows g l = length l.rest

use Rattle.std.proofs.Common.{◌≡◌, ◌+◌, length, map}
use Rattle.opgp_report.specs.Row.{row_value}
use Rattle.opgp_io.proofs.Extended.{ExtendsAllBut}
use Rattle.opgp_state.specs.Places.{placed_lines}
use Rattle.opgp_state.proofs.reporting.add_placed_report.Given as goal

-- all lines are added but those of the rows that are left
abbrev pub invariant-rows : goal.invariant-rows
invariant-rows g l = record {
  but : ExtendsAllBut g.W.Sink.held g.W.Sink.has_failed l.fn.output l.output (placed_lines l.number (map row_value l.rest) l.left) (placed_lines 0 (map row_value l.fn.rows) l.fn.places);
  count : l.number + length l.rest ≡ length l.fn.rows;
}

abbrev pub decreases-rows : goal.decreases-rows
decreases-rows g l = length l.rest

use Rattle.std.proofs.Common.{◌≡◌, ◌+◌, length, map}
use Rattle.opgp_report.specs.Row.{row_value}
use Rattle.opgp_state.proofs.Lines.{ReadSoFar}
use Rattle.opgp_state.proofs.verdict_file.read_lines.Given as goal

-- the verdicts so far are those of the lines that were read
abbrev pub invariant-rows : goal.invariant-rows
invariant-rows l = record {
  read : ReadSoFar (map row_value l.fn.rows) l.fn.file l.verdicts.items l.number (map row_value l.rest) l.left;
  count : l.number + length l.rest ≡ length l.fn.rows;
}

abbrev pub decreases-rows : goal.decreases-rows
decreases-rows l = length l.rest

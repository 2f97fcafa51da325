use Rattle.std.proofs.Common.{◌≡◌, ◌≤◌, ◌+◌, ◌++◌, length, vec_len, vec_capacity}
use Rattle.opgp_blocks.specs.Blocks.{cleaned, lines_from}
use Rattle.opgp_blocks.proofs.found.put_lines.Given as goal

-- those written, and those that are left, for which there is room
abbrev pub invariant-lines : goal.invariant-lines
invariant-lines l = record {
  within : l.at ≤ length l.text;
  written : l.out.items ++ cleaned (lines_from l.left l.at l.text) ≡ l.fn.out.items ++ cleaned (lines_from l.lines l.first l.text);
  room : vec_len l.out + length (cleaned (lines_from l.left l.at l.text)) ≤ vec_capacity l.out;
}

abbrev pub decreases-lines : goal.decreases-lines
decreases-lines l = l.left

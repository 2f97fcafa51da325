use Rattle.std.proofs.Common.{◌≡◌, ◌≤◌, length}
use Rattle.opgp_blocks.specs.Line.{behind_leading}
use Rattle.opgp_blocks.proofs.line.skip_leading.Given as goal

abbrev pub invariant-leading : goal.invariant-leading
invariant-leading l = record {
  left : behind_leading l.rest ≡ behind_leading l.line;
  few : length l.rest ≤ length l.line;
}

abbrev pub decreases-leading : goal.decreases-leading
decreases-leading l = length l.rest

use Rattle.std.proofs.Common.{◌≡◌, ◌≤◌, ◌-◌, length}
use Rattle.opgp_blocks.specs.Blocks.{blocks}
use Rattle.opgp_blocks.specs.Line.{shown_from}
use Rattle.opgp_blocks.proofs.searching.next_begin.Given as goal

abbrev pub invariant-lines : goal.invariant-lines
invariant-lines l = record {
  within : l.first ≤ length l.text;
  left : blocks (shown_from l.first l.text) ≡ blocks (shown_from l.at l.text);
}

abbrev pub decreases-lines : goal.decreases-lines
decreases-lines l = length l.text - l.first

use Rattle.std.proofs.Common.{◌≤◌, ◌+◌, ◌-◌, ◌*◌, length}
use Rattle.opgp_blocks.specs.View.{shown_value}
use Rattle.opgp_blocks.proofs.Rests.{Passed}
use Rattle.opgp_blocks.proofs.searching.rest_of_block.Given as goal

abbrev pub invariant-lines : goal.invariant-lines
invariant-lines l = record {
  passed : Passed l.text (shown_value l.begin) l.begin.next l.rest.lines l.rest.end l.rest.wanted l.rest.next;
  within : l.rest.next ≤ length l.text;
  end : l.begin.at ≤ l.rest.end;
  start : l.begin.at ≤ l.rest.next;
  few : l.rest.lines + l.begin.next ≤ l.rest.next;
  small : l.rest.wanted + 2 * l.begin.next ≤ 2 * l.rest.next;
}

abbrev pub decreases-lines : goal.decreases-lines
decreases-lines l = length l.text - l.rest.next

use Rattle.std.proofs.Common.{◌-◌, ◌≡◌, ◌≤◌, false, length}
use Rattle.opgp.specs.Frame.Fed.{count_of, is_ready}
use Rattle.opgp_examples.proofs.walk.walk_block.Given as goal

-- what the reader was given, it has handed out
abbrev pub invariant-pushes : goal.invariant-pushes
invariant-pushes g l = (l.at ≤ length l.octets) × (count_of l.reader ≡ l.at) × (is_ready l.reader ≡ false)

abbrev pub decreases-pushes : goal.decreases-pushes
decreases-pushes g l = length l.octets - l.at

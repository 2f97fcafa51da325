use Rattle.std.proofs.Common.{◌≡◌, ◌+◌, ◌++◌, length}
use Rattle.opgp_handles.specs.States.{component_rows}
use Rattle.opgp_handles.proofs.states.add_components.Given as goal

-- the rows so far, and those that are to come, are all
abbrev pub invariant-states : goal.invariant-states
invariant-states l = record {
  rows : l.rows.items ++ component_rows l.certificate l.number l.rest ≡ l.fn.rows.items ++ component_rows l.certificate 0 l.fn.states;
  count : l.number + length l.rest ≡ length l.fn.states;
}

abbrev pub decreases-states : goal.decreases-states
decreases-states l = length l.rest

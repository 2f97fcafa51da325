use Rattle.opgp_stack.proofs.stating.write_merged_states.Goals as goal

pub returns : goal.returns
returns g c = rw c.done.ensures (rw c.in_ok-merged.ensures at c.write_states-ended.ensures)

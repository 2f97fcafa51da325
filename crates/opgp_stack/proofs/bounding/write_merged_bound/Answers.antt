use Rattle.opgp_stack.proofs.bounding.write_merged_bound.Goals as goal

pub returns : goal.returns
returns g c = rw c.in_ok-merged.ensures at c.write_bound.ensures

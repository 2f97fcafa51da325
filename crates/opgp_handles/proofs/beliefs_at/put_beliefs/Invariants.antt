use Rattle.opgp_handles.proofs.beliefs_at.put_beliefs.Given as goal

abbrev pub ghost-signatures_in : goal.ghost-signatures_in
ghost-signatures_in g a = g.so_far

use Rattle.opgp_handles.proofs.beliefs.document_standing.Given as goal

abbrev pub ghost-put_belief : goal.ghost-put_belief
ghost-put_belief g a = g.so_far

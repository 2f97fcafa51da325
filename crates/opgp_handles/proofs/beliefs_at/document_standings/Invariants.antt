use Rattle.opgp_handles.proofs.beliefs_at.document_standings.Given as goal

abbrev pub ghost-put_beliefs : goal.ghost-put_beliefs
ghost-put_beliefs g a = g.so_far

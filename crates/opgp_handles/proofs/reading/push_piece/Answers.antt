use Rattle.opgp_handles.proofs.reading.push_piece.Goals as goal

pub push-pushed-requires-clause-used : goal.push-pushed-requires-clause-used
push-pushed-requires-clause-used g c = (g.so_far, rw c.in-Going.is at c.requires.0)

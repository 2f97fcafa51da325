use Rattle.opgp_handles.proofs.reading.take_part.Given as goal

abbrev pub ghost-next : goal.ghost-next
ghost-next g a = g.so_far

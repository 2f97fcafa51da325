use Rattle.opgp_c.proofs.opgp_reader_take.Given as goal

abbrev pub ghost-reader_take : goal.ghost-reader_take
ghost-reader_take g a = g.so_far

use Rattle.opgp_c.proofs.opgp_reader_end.Given as goal

abbrev pub ghost-reader_end : goal.ghost-reader_end
ghost-reader_end g a = g.so_far

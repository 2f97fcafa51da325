use Rattle.opgp_c.proofs.opgp_reader_push.Given as goal

abbrev pub ghost-reader_push : goal.ghost-reader_push
ghost-reader_push g a = g.so_far

use Rattle.opgp_handles.proofs.readers.reader_end.Given as goal

abbrev pub ghost-end_input : goal.ghost-end_input
ghost-end_input g a = g.so_far

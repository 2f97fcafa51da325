use Rattle.opgp_handles.proofs.readers.reader_take.Given as goal

abbrev pub ghost-take_part : goal.ghost-take_part
ghost-take_part g a = g.so_far

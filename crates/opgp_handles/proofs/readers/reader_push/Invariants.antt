use Rattle.opgp_handles.proofs.readers.reader_push.Given as goal

abbrev pub ghost-push_piece : goal.ghost-push_piece
ghost-push_piece g a = g.so_far

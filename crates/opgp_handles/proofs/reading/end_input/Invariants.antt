use Rattle.opgp_handles.proofs.reading.end_input.Given as goal

abbrev pub ghost-end : goal.ghost-end
ghost-end g a = g.so_far

abbrev pub ghost-tell_end : goal.ghost-tell_end
ghost-tell_end g a = g.so_far

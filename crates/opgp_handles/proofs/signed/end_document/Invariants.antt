use Rattle.opgp_handles.proofs.signed.end_document.Given as goal

abbrev pub ghost-has_ended : goal.ghost-has_ended
ghost-has_ended g a = g.so_far

abbrev pub ghost-end : goal.ghost-end
ghost-end g a = g.so_far

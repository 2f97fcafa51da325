use Rattle.opgp_c.proofs.texts.opgp_canonical_end.Given as goal

abbrev pub ghost-canonical_end : goal.ghost-canonical_end
ghost-canonical_end g a = g.so_far

use Rattle.opgp_c.proofs.texts.opgp_canonical.Given as goal

abbrev pub ghost-canonical : goal.ghost-canonical
ghost-canonical g a = g.so_far

use Rattle.opgp_c.proofs.beliefs.opgp_document_standing.Given as goal

abbrev pub ghost-document_standing : goal.ghost-document_standing
ghost-document_standing g a = g.so_far

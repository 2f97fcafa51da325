use Rattle.opgp_c.proofs.beliefs.opgp_document_standings.Given as goal

abbrev pub ghost-document_standings : goal.ghost-document_standings
ghost-document_standings g a = g.so_far

use Rattle.opgp_c.proofs.documents.opgp_document_end.Given as goal

abbrev pub ghost-document_end : goal.ghost-document_end
ghost-document_end g a = g.so_far

use Rattle.opgp_c.proofs.documents.opgp_document_push.Given as goal

abbrev pub ghost-document_push : goal.ghost-document_push
ghost-document_push g a = g.so_far

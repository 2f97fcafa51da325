use Rattle.opgp_handles.proofs.documents.document_end.Given as goal

abbrev pub ghost-end_document : goal.ghost-end_document
ghost-end_document g a = g.so_far

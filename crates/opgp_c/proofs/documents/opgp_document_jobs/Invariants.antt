use Rattle.opgp_c.proofs.documents.opgp_document_jobs.Given as goal

abbrev pub ghost-document_jobs : goal.ghost-document_jobs
ghost-document_jobs g a = g.so_far

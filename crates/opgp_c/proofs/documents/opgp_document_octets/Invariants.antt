use Rattle.opgp_c.proofs.documents.opgp_document_octets.Given as goal

abbrev pub ghost-document_octets : goal.ghost-document_octets
ghost-document_octets g a = g.so_far

use Rattle.opgp_c.proofs.documents.opgp_document_subpackets.Given as goal

abbrev pub ghost-document_subpackets : goal.ghost-document_subpackets
ghost-document_subpackets g a = g.so_far

use Rattle.opgp_handles.proofs.documents.document_subpackets.Given as goal

abbrev pub ghost-put_subpackets : goal.ghost-put_subpackets
ghost-put_subpackets g a = g.so_far

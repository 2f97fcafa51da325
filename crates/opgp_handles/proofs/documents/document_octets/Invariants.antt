use Rattle.opgp_handles.proofs.documents.document_octets.Given as goal

abbrev pub ghost-put_row_side : goal.ghost-put_row_side
ghost-put_row_side g a = g.so_far

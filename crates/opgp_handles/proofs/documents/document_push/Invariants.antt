use Rattle.opgp_handles.proofs.documents.document_push.Given as goal

abbrev pub ghost-push_octets : goal.ghost-push_octets
ghost-push_octets g a = g.so_far

use Rattle.std.proofs.Common.{arith}
use Rattle.opgp_keyring.specs.DetachedSignatures.{detached_packets}
use Rattle.opgp_keyring.specs.Signed.{signature_bodies}
use Rattle.opgp_tables.proofs.Documents.{subs_many}
use Rattle.opgp_tables.proofs.document_subpackets.fill_document_subpackets.Goals as goal

pub put_all-requires-clause-rows : goal.put_all-requires-clause-rows
put_all-requires-clause-rows c = rw c.signatures.ensures (omega (arith, c.requires.rows, subs_many 0 0 (signature_bodies (detached_packets c.args.signatures.now))))

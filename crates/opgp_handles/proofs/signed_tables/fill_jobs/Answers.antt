use Rattle.std.proofs.Common.{◌∙◌, List, Option, ap, length}
use Rattle.std.proofs.lemmas.List.{length-map}
use Rattle.opgp_hash.specs.SignedValue.{SignedValue}
use Rattle.opgp_document.specs.Answer.{IsAnswer}
use Rattle.opgp_document.proofs.Pairs.{as_long}
use Rattle.opgp_keyring.specs.DetachedSignatures.{detached_packets}
use Rattle.opgp_keyring.specs.Signed.{signature_bodies}
use Rattle.opgp_tables.specs.DocumentJobs.{Answer}
use Rattle.opgp_handles.specs.Documents.{signed_at, signed_in}
use Rattle.opgp_handles.proofs.signed_tables.fill_jobs.Goals as goal

-- there is an answer for each signature
pub fill_document_jobs-requires-clause-answers : goal.fill_document_jobs-requires-clause-answers
fill_document_jobs-requires-clause-answers g c =
    ap (λ (l : List Answer). length l) c.deref.ensures.value
    ∙ as_long (λ (answer : Answer) (s : Option SignedValue). IsAnswer s g.so_far answer) c.in-Ok.found.items (signed_in (signature_bodies (detached_packets c.args.signatures.now)))
    (c.in-Ok.ensures (signed_in (signature_bodies (detached_packets c.args.signatures.now))) g.so_far c.requires.0)
    ∙ length-map (signature_bodies (detached_packets c.args.signatures.now)) signed_at

use Rattle.std.proofs.Common.{[], ℕ, List, Option, Result, arith, ap, length, refl, subst, ◌≡◌}
use Rattle.opgp_octets.specs.declared.fault.BodyFault.{BodyFault}
use Rattle.opgp_packet.specs.declared.sig_view.SigView.{SigView}
use Rattle.opgp_hash.specs.SignedValue.{SignedValue}
use Rattle.opgp_document.specs.SignedDocument.{IsSignedBy}
use Rattle.opgp_document.proofs.Pairs.{as_long}
use Rattle.opgp_keyring.specs.DetachedSignatures.{detached_packets}
use Rattle.opgp_keyring.specs.Signed.{signature_bodies}
use Rattle.opgp_keyring.specs.SignedLiteral.{IsReadAs}
use Rattle.opgp_handles.proofs.Signatures.{all_asked}
use Rattle.opgp_handles.proofs.signed.open.Goals as goal

-- the document is under the signatures as they are read
pub returns-in-Ok-open-clause-ok : goal.returns-in-Ok-open-clause-ok
returns-in-Ok-open-clause-ok c =
    subst (λ (l : List (Option SignedValue)). IsSignedBy c.in-Ok-open.document l []) (all_asked c.in-Ok.views.items (signature_bodies (detached_packets c.args.signatures.now)) c.in-Ok.ensures)
    (rw c.deref.ensures.value at c.in-Ok-open.ensures.ok)

pub returns-in-Ok-open-clause-few : goal.returns-in-Ok-open-clause-few
returns-in-Ok-open-clause-few c =
    let many : length c.in-Ok.views.items ≡ length (signature_bodies (detached_packets c.args.signatures.now)) = as_long (λ (read : Result SigView BodyFault) (body : List ℕ). IsReadAs body read) c.in-Ok.views.items (signature_bodies (detached_packets c.args.signatures.now)) c.in-Ok.ensures in
    omega (arith, c.in-Ok-open.ensures.few, ap (λ (l : List (Result SigView BodyFault)). length l) c.deref.ensures.value, many)

pub returns-in-Err-TooManySignatures-clause-many : goal.returns-in-Err-TooManySignatures-clause-many
returns-in-Err-TooManySignatures-clause-many c = λ _.
    let many : length c.in-Ok.views.items ≡ length (signature_bodies (detached_packets c.args.signatures.now)) = as_long (λ (read : Result SigView BodyFault) (body : List ℕ). IsReadAs body read) c.in-Ok.views.items (signature_bodies (detached_packets c.args.signatures.now)) c.in-Ok.ensures in
    let all = rw c.in-Err-TooManySignatures.field-0-is at c.in-Err-TooManySignatures.ensures in
    omega (arith, all.many.0 refl, ap (λ (l : List (Result SigView BodyFault)). length l) c.deref.ensures.value, many)

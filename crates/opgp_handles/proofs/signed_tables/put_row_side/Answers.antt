use Rattle.std.proofs.Common.{◌≡◌, ◌∙◌, ℕ, List, Option, Result, Some, None, ap, map, slice_get, subst}
use Rattle.opgp_octets.specs.declared.fault.BodyFault.{BodyFault}
use Rattle.opgp_packet.specs.declared.sig_view.SigView.{SigView}
use Rattle.opgp_hash.specs.SignedValue.{SignedValue}
use Rattle.opgp_document.specs.Answer.{asked_of}
use Rattle.opgp_document.specs.OwnOctets.{own_value}
use Rattle.opgp_keyring.specs.DetachedSignatures.{detached_packets}
use Rattle.opgp_keyring.specs.Signed.{signature_bodies}
use Rattle.opgp_handles.specs.Documents.{bodies_in, signed_by, signed_in}
use Rattle.opgp_handles.proofs.Signatures.{all_asked}
use Rattle.opgp_handles.proofs.signed_tables.put_row_side.Goals as goal

-- the signatures that were read are those that are held
pub returns-in-Some-clause-done : goal.returns-in-Some-clause-done
returns-in-Some-clause-done g c = λ done.
    let put = c.put_side.ensures.done done in
    let same : map asked_of c.deref.result.now ≡ signed_in (bodies_in c.args.held.now) = ap (λ (l : List (Result SigView BodyFault)). map asked_of l) c.deref.ensures.value
    ∙ all_asked c.in-Ok.views.items (signature_bodies (detached_packets c.signatures_in.result.now)) c.in-Ok.ensures ∙ ap (λ (bodies : List (List ℕ)). signed_in bodies) c.signatures_in.ensures in
    (own_value c.in-Some.own, subst (λ (l : List (Option SignedValue)). signed_by (slice_get l c.args.row) ≡ Some (own_value c.in-Some.own)) same c.in-Some.ensures.some, put.0, put.1)

pub returns-in-Some-clause-room : goal.returns-in-Some-clause-room
returns-in-Some-clause-room g c = λ room.
    let put = c.put_side.ensures.room room in
    let same : map asked_of c.deref.result.now ≡ signed_in (bodies_in c.args.held.now) = ap (λ (l : List (Result SigView BodyFault)). map asked_of l) c.deref.ensures.value
    ∙ all_asked c.in-Ok.views.items (signature_bodies (detached_packets c.signatures_in.result.now)) c.in-Ok.ensures ∙ ap (λ (bodies : List (List ℕ)). signed_in bodies) c.signatures_in.ensures in
    (own_value c.in-Some.own, subst (λ (l : List (Option SignedValue)). signed_by (slice_get l c.args.row) ≡ Some (own_value c.in-Some.own)) same c.in-Some.ensures.some, put.0, put.1)

pub returns-clause-none : goal.returns-clause-none
returns-clause-none g c = λ _.
    let same : map asked_of c.deref.result.now ≡ signed_in (bodies_in c.args.held.now) = ap (λ (l : List (Result SigView BodyFault)). map asked_of l) c.deref.ensures.value
    ∙ all_asked c.in-Ok.views.items (signature_bodies (detached_packets c.signatures_in.result.now)) c.in-Ok.ensures ∙ ap (λ (bodies : List (List ℕ)). signed_in bodies) c.signatures_in.ensures in
    subst (λ (l : List (Option SignedValue)). signed_by (slice_get l c.args.row) ≡ None) same c.in-None.ensures.none

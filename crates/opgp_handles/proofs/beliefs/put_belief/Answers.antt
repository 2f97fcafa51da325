use Rattle.std.proofs.Common.{◌≡◌, ◌∙◌, Bool, ℕ, List, Option, Result, ap, map, slice_get, sym}
use Rattle.std.specs.Option.{option_map}
use Rattle.opgp_octets.specs.declared.fault.BodyFault.{BodyFault}
use Rattle.opgp_packet.specs.SignatureBody.{SignatureValue}
use Rattle.opgp_packet.specs.SigView.{sig_view_value}
use Rattle.opgp_packet.specs.declared.sig_view.SigView.{SigView}
use Rattle.opgp_keyring.specs.DetachedSignatures.{detached_packets}
use Rattle.opgp_keyring.specs.Signed.{signature_bodies}
use Rattle.opgp_handles.specs.Documents.{bodies_in, is_message}
use Rattle.opgp_handles.specs.Standings.{believed_in, value_at, value_if, value_read}
use Rattle.opgp_handles.proofs.Signatures.{all_values}
use Rattle.opgp_handles.proofs.beliefs.put_belief.Goals as goal

-- the signatures that were read are those that are held
pub returns-in-Ok-Some-clause-done : goal.returns-in-Ok-Some-clause-done
returns-in-Ok-Some-clause-done g c = λ _.
    let same : map value_read c.deref.result.now ≡ map value_at (bodies_in c.args.held.now) = ap (λ (l : List (Result SigView BodyFault)). map value_read l) c.deref.ensures.value
    ∙ all_values c.in-Ok.views.items (signature_bodies (detached_packets c.signatures_in.result.now)) c.in-Ok.ensures ∙ ap (λ (bodies : List (List ℕ)). map value_at bodies) c.signatures_in.ensures in
    sym (c.in-Ok-Some.ensures ∙ ap (λ (m : Bool). believed_in m c.args.keyring.now c.args.policy c.args.numbers.now c.args.at c.args.now (option_map (λ (v : SigView). sig_view_value v) c.view_at.result)) c.is_message.ensures
    ∙ ap (λ (o : Option SignatureValue). believed_in (is_message c.args.held.now) c.args.keyring.now c.args.policy c.args.numbers.now c.args.at c.args.now o) (c.view_at.ensures ∙ ap (λ (l : List (Option SignatureValue)). value_if (slice_get l c.args.row)) same)) ∙ c.in-Ok-Some.field-0-is

pub returns-in-Ok-None-clause-none : goal.returns-in-Ok-None-clause-none
returns-in-Ok-None-clause-none g c = λ _.
    let same : map value_read c.deref.result.now ≡ map value_at (bodies_in c.args.held.now) = ap (λ (l : List (Result SigView BodyFault)). map value_read l) c.deref.ensures.value
    ∙ all_values c.in-Ok.views.items (signature_bodies (detached_packets c.signatures_in.result.now)) c.in-Ok.ensures ∙ ap (λ (bodies : List (List ℕ)). map value_at bodies) c.signatures_in.ensures in
    sym (c.in-Ok-None.ensures ∙ ap (λ (m : Bool). believed_in m c.args.keyring.now c.args.policy c.args.numbers.now c.args.at c.args.now (option_map (λ (v : SigView). sig_view_value v) c.view_at.result)) c.is_message.ensures
    ∙ ap (λ (o : Option SignatureValue). believed_in (is_message c.args.held.now) c.args.keyring.now c.args.policy c.args.numbers.now c.args.at c.args.now o) (c.view_at.ensures ∙ ap (λ (l : List (Option SignatureValue)). value_if (slice_get l c.args.row)) same)) ∙ c.in-Ok-None.field-0-is

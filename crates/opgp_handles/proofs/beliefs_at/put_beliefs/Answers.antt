use Rattle.std.proofs.Common.{◌≡◌, ◌∙◌, ◌<◌, Bool, ℕ, List, Option, Result, ap, length, map, slice_get, subst, sym}
use Rattle.std.specs.Option.{option_map}
use Rattle.std.specs.Global.{Vec}
use Rattle.opgp_octets.specs.declared.fault.BodyFault.{BodyFault}
use Rattle.opgp_packet.specs.SignatureBody.{SignatureValue}
use Rattle.opgp_packet.specs.SigView.{sig_view_value}
use Rattle.opgp_packet.specs.declared.sig_view.SigView.{SigView}
use Rattle.opgp_keyring.specs.DetachedSignatures.{detached_packets}
use Rattle.opgp_keyring.specs.Signed.{signature_bodies}
use Rattle.opgp_handles.specs.Calls.{IsFilled}
use Rattle.opgp_handles.specs.Documents.{bodies_in, is_message}
use Rattle.opgp_handles.specs.Standings.{believed_at, value_at, value_if, value_read}
use Rattle.opgp_handles.proofs.Signatures.{all_values}
use Rattle.opgp_handles.proofs.beliefs_at.put_beliefs.Goals as goal

pub returns-in-Ok-Some-clause-done : goal.returns-in-Ok-Some-clause-done
returns-in-Ok-Some-clause-done g c = λ done.
    let same : map value_read c.deref.result.now ≡ map value_at (bodies_in c.args.held.now) = ap (λ (l : List (Result SigView BodyFault)). map value_read l) c.deref.ensures.value
    ∙ all_values c.in-Ok.views.items (signature_bodies (detached_packets c.signatures_in.result.now)) c.in-Ok.ensures ∙ ap (λ (bodies : List (List ℕ)). map value_at bodies) c.signatures_in.ensures in
    let is = sym (c.in-Ok-Some.ensures ∙ ap (λ (m : Bool). believed_at m c.args.keyring.now c.args.policy c.args.numbers.now c.args.places.now c.args.now (option_map (λ (v : SigView). sig_view_value v) c.view_at.result)) c.is_message.ensures
    ∙ ap (λ (o : Option SignatureValue). believed_at (is_message c.args.held.now) c.args.keyring.now c.args.policy c.args.numbers.now c.args.places.now c.args.now o) (c.view_at.ensures ∙ ap (λ (l : List (Option SignatureValue)). value_if (slice_get l c.args.row)) same))
    ∙ ap (λ (found : Option (Vec ℕ)). option_map (λ (v : Vec ℕ). v.items) found) c.in-Ok-Some.field-0-is in
    let here = c.deref-in-Ok-Some.ensures.value in
    (c.in-Ok-Some.found.items, is, subst (λ (l : List ℕ). IsFilled l c.args.whys.now c.put_octets.new.bytes) here (c.put_octets.ensures.done done), c.put_octets.ensures.size ∙ ap (λ (l : List ℕ). length l) here)

pub returns-in-Ok-Some-clause-room : goal.returns-in-Ok-Some-clause-room
returns-in-Ok-Some-clause-room g c = λ short.
    let same : map value_read c.deref.result.now ≡ map value_at (bodies_in c.args.held.now) = ap (λ (l : List (Result SigView BodyFault)). map value_read l) c.deref.ensures.value
    ∙ all_values c.in-Ok.views.items (signature_bodies (detached_packets c.signatures_in.result.now)) c.in-Ok.ensures ∙ ap (λ (bodies : List (List ℕ)). map value_at bodies) c.signatures_in.ensures in
    let is = sym (c.in-Ok-Some.ensures ∙ ap (λ (m : Bool). believed_at m c.args.keyring.now c.args.policy c.args.numbers.now c.args.places.now c.args.now (option_map (λ (v : SigView). sig_view_value v) c.view_at.result)) c.is_message.ensures
    ∙ ap (λ (o : Option SignatureValue). believed_at (is_message c.args.held.now) c.args.keyring.now c.args.policy c.args.numbers.now c.args.places.now c.args.now o) (c.view_at.ensures ∙ ap (λ (l : List (Option SignatureValue)). value_if (slice_get l c.args.row)) same))
    ∙ ap (λ (found : Option (Vec ℕ)). option_map (λ (v : Vec ℕ). v.items) found) c.in-Ok-Some.field-0-is in
    let here = c.deref-in-Ok-Some.ensures.value in
    (c.in-Ok-Some.found.items, is, subst (λ (l : List ℕ). length c.args.whys.now < length l) here (c.put_octets.ensures.room short), c.put_octets.ensures.size ∙ ap (λ (l : List ℕ). length l) here)

pub returns-in-Ok-None-clause-none : goal.returns-in-Ok-None-clause-none
returns-in-Ok-None-clause-none g c = λ _.
    let same : map value_read c.deref.result.now ≡ map value_at (bodies_in c.args.held.now) = ap (λ (l : List (Result SigView BodyFault)). map value_read l) c.deref.ensures.value
    ∙ all_values c.in-Ok.views.items (signature_bodies (detached_packets c.signatures_in.result.now)) c.in-Ok.ensures ∙ ap (λ (bodies : List (List ℕ)). map value_at bodies) c.signatures_in.ensures in
    let is = sym (c.in-Ok-None.ensures ∙ ap (λ (m : Bool). believed_at m c.args.keyring.now c.args.policy c.args.numbers.now c.args.places.now c.args.now (option_map (λ (v : SigView). sig_view_value v) c.view_at.result)) c.is_message.ensures
    ∙ ap (λ (o : Option SignatureValue). believed_at (is_message c.args.held.now) c.args.keyring.now c.args.policy c.args.numbers.now c.args.places.now c.args.now o) (c.view_at.ensures ∙ ap (λ (l : List (Option SignatureValue)). value_if (slice_get l c.args.row)) same))
    ∙ ap (λ (found : Option (Vec ℕ)). option_map (λ (v : Vec ℕ). v.items) found) c.in-Ok-None.field-0-is in
    is

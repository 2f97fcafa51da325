use Rattle.std.proofs.Common.{◌∙◌, ◌≤◌, List, Ok, length, subst, sym}
use Rattle.opgp_frame.specs.Packet.{PacketValue}
use Rattle.opgp_keyring.specs.DetachedSignatures.{detached_packets}
use Rattle.opgp_keyring.specs.Signed.{signature_bodies}
use Rattle.opgp_handles.specs.Documents.{SignaturesBy}
use Rattle.opgp_handles.proofs.documents.document_open.Goals as goal

-- the handle holds the signatures that were read by that mode
pub returns-in-Ok-clause-done : goal.returns-in-Ok-clause-done
returns-in-Ok-clause-done c = λ done.
    let k = c.keep_signatures.ensures.done done in (
      c.in-Some.mode,
      sym c.mode_by.ensures ∙ c.in-Some.is,
      k.0,
      subst (λ (ps : List PacketValue). SignaturesBy c.in-Some.mode c.args.limits.now c.args.input.now (Ok ps)) (sym k.1) c.in-Ok.ensures.read,
      k.2,
    )

pub returns-in-Ok-clause-few : goal.returns-in-Ok-clause-few
returns-in-Ok-clause-few c = λ done.
    let k = c.keep_signatures.ensures.done done in subst (λ (ps : List PacketValue). length (signature_bodies ps) ≤ 64) (sym k.1) k.3

pub returns-in-Ok-clause-many : goal.returns-in-Ok-clause-many
returns-in-Ok-clause-many c = λ many. (
  c.in-Some.mode,
  sym c.mode_by.ensures ∙ c.in-Some.is,
  detached_packets c.in-Ok.signatures,
  c.in-Ok.ensures.read,
  c.keep_signatures.ensures.many many,
)

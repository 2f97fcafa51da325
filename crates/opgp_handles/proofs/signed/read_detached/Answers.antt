use Rattle.std.proofs.Common.{ℕ, List, Ok, Err, Bor, subst}
use Rattle.opgp_frame.specs.Packet.{PacketValue}
use Rattle.opgp_keyring.specs.DetachedSignatures.{detached_packets}
use Rattle.opgp_codec.specs.Reading.{AnswerOf}
use Rattle.opgp_codec.specs.Signatures.{AreDetachedSignatures, signature_label}
use Rattle.opgp_handles.proofs.signed.read_detached.Goals as goal

-- the signatures, or the fault, are those of the octets that the source had
pub returns-in-Ok-clause-read : goal.returns-in-Ok-clause-read
returns-in-Ok-clause-read c =
    let l = c.in-Some.limits in
    (l, c.in-Some.ensures.these, subst (λ (s : Bor (List ℕ)). AnswerOf {A = List PacketValue} signature_label (AreDetachedSignatures l) c.args.mode l s.now (Ok (detached_packets c.in-Ok.signatures))) c.new-source.ensures.inner c.in-Ok.ensures.known)

pub returns-in-Err-Refused-clause-refused : goal.returns-in-Err-Refused-clause-refused
returns-in-Err-Refused-clause-refused c = λ _.
    let l = c.in-Some.limits in
    let all = rw c.in-Err-Refused.field-0-is at c.in-Err-Refused.ensures in
    (c.in-Err-Refused.found, (l, c.in-Some.ensures.these, subst (λ (s : Bor (List ℕ)). AnswerOf {A = List PacketValue} signature_label (AreDetachedSignatures l) c.args.mode l s.now (Err c.in-Err-Refused.found)) c.new-source.ensures.inner all.known), c.of.ensures)

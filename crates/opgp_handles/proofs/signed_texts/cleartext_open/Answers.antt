use Rattle.std.proofs.Common.{List, Ok, inl, subst, sym}
use Rattle.opgp_frame.specs.Packet.{PacketValue}
use Rattle.opgp_cleartext.specs.View.{document_of}
use Rattle.opgp_codec.specs.Cleartext.{CleartextAnswer}
use Rattle.opgp_handles.proofs.signed_texts.cleartext_open.Goals as goal

-- what is kept are the message's signatures, over its document
pub returns-in-Ok-clause-done : goal.returns-in-Ok-clause-done
returns-in-Ok-clause-done c = λ done.
    let kept = c.keep_message.ensures.done done in
    let read = c.in-Ok.ensures.read in
    let text = document_of c.in-Ok.message in (
      text,
      (read.0, read.1, subst (λ (ps : List PacketValue). CleartextAnswer read.0 c.args.input.now (Ok (text, ps))) (sym kept.3) read.2),
      kept.0,
      c.keep_message.ensures.size (inl done),
      kept.1,
      kept.2,
      kept.5,
    )

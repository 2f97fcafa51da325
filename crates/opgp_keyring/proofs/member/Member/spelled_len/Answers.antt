use Rattle.std.proofs.Common.{◌∙◌, ap, length, refl}
use Rattle.opgp_frame.specs.Packet.{PacketValue, spelling}
use Rattle.opgp_frame.specs.declared.form.Form.{Form}
use Rattle.opgp_keyring.proofs.member.Member.spelled_len.Goals as goal

pub returns : goal.returns
returns c =
    let m = c.args.self in
    c.spelled_len_of.ensures m.header.kind m.body.now refl
    ∙ ap (λ (form : Form). let p : PacketValue = record { form = form; kind = m.header.kind; body = m.body.now } in length (spelling p)) c.form.ensures.value

use Rattle.std.proofs.Common.{List, ◌++◌, ap, sym, ◌∙◌}
use Rattle.opgp_frame.specs.Packet.{PacketValue}
use Rattle.opgp_keyring.specs.Keyring.{certificate_packets}
use Rattle.opgp_keyring.proofs.Grouping.{begins_more, fillers_follow, is_certificate, packets_of}
use Rattle.opgp_keyring.proofs.certificate.Certificate.hang_all.Goals as goal

pub returns-clause-ok : goal.returns-clause-ok
returns-clause-ok c =
    let ps = c.self.inside.packets in
    let qs = c.args.fillers in
    rw (c.in_ok-append.ensures.ok, c.into_packed.ensures.value)
    (packets_of (ps ++ qs) (begins_more ps qs c.self.invariant (fillers_follow qs c.into_packed.ensures.fillers)) ∙ ap (λ (l : List PacketValue). l ++ qs) (sym (packets_of ps c.self.invariant) ∙ ap certificate_packets c.self.view_is))

pub returns-clause-certificate : goal.returns-clause-certificate
returns-clause-certificate c =
    let ps = c.self.inside.packets in
    let qs = c.args.fillers in
    rw (c.in_ok-append.ensures.ok, c.into_packed.ensures.value) (is_certificate (ps ++ qs) (begins_more ps qs c.self.invariant (fillers_follow qs c.into_packed.ensures.fillers)))

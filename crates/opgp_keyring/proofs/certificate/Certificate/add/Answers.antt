use Rattle.std.proofs.Common.{List, ◌∷◌, [], ◌++◌, ap, sym, ◌∙◌}
use Rattle.opgp_frame.specs.Packet.{PacketValue}
use Rattle.opgp_keyring.specs.Keyring.{certificate_packets}
use Rattle.opgp_keyring.specs.Member.{member_packet}
use Rattle.opgp_keyring.proofs.Grouping.{begins_longer, is_certificate, packets_of}
use Rattle.opgp_keyring.proofs.certificate.Certificate.add.Goals as goal

pub returns-clause-ok : goal.returns-clause-ok
returns-clause-ok c =
    let ps = c.self.inside.packets in
    let q = member_packet c.args.member in
    rw c.in_ok-push.ensures.ok
    (packets_of (ps ++ q ∷ []) (begins_longer ps q c.self.invariant c.requires) ∙ ap (λ (l : List PacketValue). l ++ q ∷ []) (sym (packets_of ps c.self.invariant) ∙ ap certificate_packets c.self.view_is))

pub returns-clause-certificate : goal.returns-clause-certificate
returns-clause-certificate c =
    let ps = c.self.inside.packets in
    let q = member_packet c.args.member in
    rw c.in_ok-push.ensures.ok (is_certificate (ps ++ q ∷ []) (begins_longer ps q c.self.invariant c.requires))

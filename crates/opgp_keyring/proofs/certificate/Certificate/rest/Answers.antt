use Rattle.std.proofs.Common.{◌≡◌, ◌<◌, ◌^◌, List, MatchOption, length, ap, sym, subst, ◌∙◌, ◌∷◌, []}
use Rattle.opgp_frame.specs.Packet.{PacketValue}
use Rattle.opgp_keyring.specs.Keyring.{CertificateValue, IsCertificate, certificate_packets}
use Rattle.opgp_keyring.specs.Member.{member_packet, members_left}
use Rattle.opgp_keyring.proofs.Grouping.{behind_primary, is_certificate, packets_of}
use Rattle.opgp_keyring.proofs.certificate.Certificate.rest.Goals as goal

pub returns : goal.returns
returns c =
    let ps = c.self.inside.packets in
    let left = members_left c.next-primary.new.self in
    let next = subst (λ (qs : List PacketValue). MatchOption c.next-primary.result ((qs ≡ []) × (left ≡ [])) (λ m. qs ≡ member_packet m ∷ left)) c.members-packets.ensures.value c.next-primary.ensures in
    let behind = behind_primary ps left c.next-primary.result c.self.invariant next in
    record {
      hangs = behind.0 ∙ ap (λ (v : CertificateValue). v.hangs) c.self.view_is;
      components = behind.1 ∙ ap (λ (v : CertificateValue). v.components) c.self.view_is;
      certificate = subst IsCertificate c.self.view_is (is_certificate ps c.self.invariant);
      few = subst (λ (qs : List PacketValue). length qs < 2 ^ 64) (sym (packets_of ps c.self.invariant) ∙ ap certificate_packets c.self.view_is) c.members-packets.ensures.few;
    }

use Rattle.std.proofs.Common.{List, ◌<◌, ◌^◌, length, ap, sym, subst, ◌∙◌}
use Rattle.opgp_frame.specs.Packet.{PacketValue}
use Rattle.opgp_keyring.specs.Keyring.{IsCertificate, certificate_packets}
use Rattle.opgp_keyring.proofs.Grouping.{is_certificate, packets_of}
use Rattle.opgp_keyring.proofs.certificate.Certificate.packets.Goals as goal

pub returns-clause-value : goal.returns-clause-value
returns-clause-value c = c.members.ensures.value ∙ sym (packets_of c.self.inside.packets c.self.invariant) ∙ ap certificate_packets c.self.view_is

pub returns-clause-certificate : goal.returns-clause-certificate
returns-clause-certificate c = subst IsCertificate c.self.view_is (is_certificate c.self.inside.packets c.self.invariant)

pub returns-clause-few : goal.returns-clause-few
returns-clause-few c = subst (λ (ps : List PacketValue). length ps < 2 ^ 64) (sym (packets_of c.self.inside.packets c.self.invariant) ∙ ap certificate_packets c.self.view_is) c.members.ensures.few

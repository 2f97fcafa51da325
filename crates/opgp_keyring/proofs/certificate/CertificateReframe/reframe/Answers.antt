use Rattle.std.proofs.Common.{ap, ◌∙◌}
use Rattle.opgp_keyring.specs.Normal.{normal_certificate}
use Rattle.opgp_keyring.proofs.Grouping.{begins_normal, certificate_normal}
use Rattle.opgp_keyring.proofs.certificate.CertificateReframe.reframe.Goals as goal

pub invariant_of-self : goal.invariant_of-self
invariant_of-self c = rw c.reframe.ensures (begins_normal c.self.inside.packets c.self.invariant)

pub returns : goal.returns
returns c = rw c.reframe.ensures (certificate_normal c.self.inside.packets c.self.invariant ∙ ap normal_certificate c.self.view_is)

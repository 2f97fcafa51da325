use Rattle.std.proofs.Common.{subst}
use Rattle.opgp_keyring.specs.Keyring.{IsCertificate}
use Rattle.opgp_keyring.proofs.Grouping.{is_certificate}
use Rattle.opgp_keyring.proofs.certificate.Certificate.copy.Goals as goal

pub returns-in_err-packets-clause-certificate : goal.returns-in_err-packets-clause-certificate
returns-in_err-packets-clause-certificate c = subst IsCertificate c.self.view_is (is_certificate c.self.inside.packets c.self.invariant)

pub returns-clause-certificate : goal.returns-clause-certificate
returns-clause-certificate c = subst IsCertificate c.self.view_is (is_certificate c.self.inside.packets c.self.invariant)

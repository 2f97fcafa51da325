use Rattle.std.proofs.Common.{All, subst, sym, List}
use Rattle.std.proofs.lemmas.List.Elements.{All-push}
use Rattle.opgp_keyring.specs.Keyring.{CertificateValue, IsCertificate}
use Rattle.opgp_keyring.proofs.keyring.Keyring.add.Goals as goal

pub invariant_of-self-2 : goal.invariant_of-self-2
invariant_of-self-2 c = record {
  lead = c.self.invariant.lead;
  certificates = subst (λ (cs : List CertificateValue). All IsCertificate cs) (sym c.in_ok-push.ensures.items) (All-push IsCertificate c.self.inside.certificates.items c.args.certificate c.self.invariant.certificates c.primary-known.ensures.certificate);
}

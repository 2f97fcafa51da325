use Rattle.std.proofs.Common.{◌≡◌, ◌∙◌, List, All, sym, ap, subst}
use Rattle.opgp_keyring.specs.Keyring.{CertificateValue, IsCertificate}
use Rattle.opgp_merge.proofs.Kept.{merged, merged_are_certificates}
use Rattle.opgp_merge.proofs.merging.merge.Goals as goal

pub new-requires : goal.new-requires
new-requires c =
    let cs : List CertificateValue = c.args.ring.certificates in
    let parts = c.into_parts-lead.ensures in
    let is : c.in_ok-merged.merged.items ≡ merged cs = c.in_ok-merged.ensures ∙ ap merged (c.deref.ensures.value ∙ parts.certificates) in
    record {
      lead = rw parts.lead parts.keyring.lead;
      certificates = subst (All IsCertificate) (sym is) (merged_are_certificates cs parts.keyring.certificates);
    }

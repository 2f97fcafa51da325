use Rattle.std.proofs.Common.{◌≡◌, List, All, IfOk, map, sym, ap, subst, ◌∙◌}
use Rattle.opgp_keyring.specs.Keyring.{CertificateValue, IsCertificate}
use Rattle.opgp_merge.specs.Slots.{joined_all, once_certificate, primary_name, with_parts}
use Rattle.opgp_merge.proofs.Kept.{merged, merged_are_certificates}
use Rattle.opgp_merge.proofs.Uniting.{certificates_united}
use Rattle.opgp_merge.proofs.merging.merge_all.Goals as goal

united_are : (lent united closing cs : List CertificateValue) → lent ≡ cs → united ≡ map once_certificate (joined_all primary_name with_parts lent) → closing ≡ united → closing ≡ merged cs
united_are lent united closing cs opened once is = is ∙ once ∙ ap (λ l. map once_certificate (joined_all primary_name with_parts l)) opened ∙ certificates_united cs

pub close_all-requires : goal.close_all-requires
close_all-requires c =
    let cs : List CertificateValue = c.args.certificates.now in
    let is : c.deref.result.now ≡ merged cs = united_are c.in_ok-open.open.items c.in_ok-united.united.items c.deref.result.now cs c.in_ok-open.ensures c.in_ok-united.ensures c.deref.ensures.value in
    subst (All IsCertificate) (sym is) (merged_are_certificates cs c.requires)

pub returns : goal.returns
returns c =
    let cs : List CertificateValue = c.args.certificates.now in
    let is : c.deref.result.now ≡ merged cs = united_are c.in_ok-open.open.items c.in_ok-united.united.items c.deref.result.now cs c.in_ok-open.ensures c.in_ok-united.ensures c.deref.ensures.value in
    subst (λ l. IfOk c.close_all.result (λ v. v.items ≡ l)) is c.close_all.ensures

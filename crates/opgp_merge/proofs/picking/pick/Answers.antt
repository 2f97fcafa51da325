use Rattle.std.proofs.Common.{◌∙◌, ◌∷◌, ◌++◌, [], All, List, ap, subst, sym}
use Rattle.std.specs.Global.{Vec}
use Rattle.opgp_keyring.specs.Keyring.{CertificateValue, IsCertificate}
use Rattle.opgp_merge.proofs.Picks.{passes, picks}
use Rattle.opgp_merge.proofs.Uniting.{all_more}
use Rattle.opgp_merge.proofs.picking.pick.Goals.{then-is_picked+in_ok-copy+in_ok-push, else-is_picked}
use Rattle.opgp_merge.proofs.picking.pick.Goals as goal

abbrev items_of : Vec CertificateValue → List CertificateValue
items_of v = v.items

pub loop-number-preserved : goal.loop-number-preserved
loop-number-preserved c =
    let l = c.loop-number in
    let ps = c.args.picked.now in
    let cs = c.args.ring.now.certificates in
    let one = c.certificate-item.result in
    let all = c.certificates-certificate-items.ensures.value in
    let within = rw all at c.loop-number-test.true in
    let is = rw all at c.certificate-item.is in
    elim c.if-is_picked.branch [
      | then-is_picked+in_ok-copy+in_ok-push w ↦
          let more = ap items_of w.certificates-is ∙ w.in_ok-push.ensures.items ∙ ap (λ (x : CertificateValue). l.certificates.items ++ x ∷ []) w.in_ok-copy.ensures.value in
          record {
            value = picks ps l.number cs one l.certificates.items c.if-is_picked.certificates.items within is (sym c.is_picked.ensures ∙ w.if-is_picked.true) l.invariant.value more;
            sound = all_more IsCertificate l.certificates.items c.if-is_picked.certificates.items one more l.invariant.sound w.in_ok-copy.ensures.certificate;
          }
      | else-is_picked w ↦
          record {
            value = ap items_of w.certificates-is ∙ passes ps l.number cs one l.certificates.items within is (sym c.is_picked.ensures ∙ w.if-is_picked.false) l.invariant.value;
            sound = subst (λ (v : Vec CertificateValue). All IsCertificate v.items) (sym w.certificates-is) l.invariant.sound;
          }
    ]

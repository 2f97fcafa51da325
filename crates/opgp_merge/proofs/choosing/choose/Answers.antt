use Rattle.opgp_keyring.specs.Keyring.{IsCertificate}
use Rattle.opgp_merge.specs.Chosen.{chosen_certificate}
use Rattle.opgp_merge.proofs.Uniting.{all_more, once_more}
use Rattle.opgp_merge.proofs.choosing.choose.Goals as goal

pub loop-certificate-preserved : goal.loop-certificate-preserved
loop-certificate-preserved c =
    let l = c.loop-certificate in
    record {
      value = once_more (chosen_certificate c.args.choice) l.chosen.items l.yielded c.push.new.self.items c.in-Some.certificate c.in_ok-choose_certificate.field-0 l.invariant.value c.in_ok-push.ensures.items c.in_ok-choose_certificate.ensures.value;
      sound = all_more IsCertificate l.chosen.items c.push.new.self.items c.in_ok-choose_certificate.field-0 c.in_ok-push.ensures.items l.invariant.sound c.in_ok-choose_certificate.ensures.certificate;
    }

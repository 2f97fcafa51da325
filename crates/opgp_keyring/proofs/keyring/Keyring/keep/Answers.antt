use Rattle.std.proofs.Common.{◌∙◌, ap}
use Rattle.opgp_keyring.specs.Composed.{parts_of}
use Rattle.opgp_keyring.proofs.Gathered.{certificate_kept, lead_kept}
use Rattle.opgp_keyring.proofs.keyring.Keyring.keep.Goals as goal

pub returns-in-Lead : goal.returns-in-Lead
returns-in-Lead c = rw c.in-Lead.is (λ parts e a. ap parts_of c.begin.ensures ∙ lead_kept c.args.self.now c.in-Lead.lead parts e a)

pub returns-in_ok-add-in-Certificate : goal.returns-in_ok-add-in-Certificate
returns-in_ok-add-in-Certificate c = rw c.in-Certificate.is (λ parts e a. ap parts_of c.in_ok-add-in-Certificate.ensures.ok ∙ certificate_kept c.args.self.now c.in-Certificate.certificate parts e)

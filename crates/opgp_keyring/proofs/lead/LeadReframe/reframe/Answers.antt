use Rattle.opgp_keyring.proofs.Normalised.{fillers_normal}
use Rattle.opgp_keyring.proofs.lead.LeadReframe.reframe.Goals as goal

pub invariant_of-self : goal.invariant_of-self
invariant_of-self c = rw c.reframe.ensures (fillers_normal c.self.inside.packets c.self.invariant)

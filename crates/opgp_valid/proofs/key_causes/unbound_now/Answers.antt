use Rattle.std.proofs.Common.{◌∙◌, sym}
use Rattle.opgp_valid.specs.Facts.{facts_value}
use Rattle.opgp_valid.proofs.PartCauses.{unbound_here, unbound_there}
use Rattle.opgp_valid.proofs.key_causes.unbound_now.Goals as goal

pub returns-in-Some : goal.returns-in-Some
returns-in-Some c = unbound_there (facts_value c.args.facts) c.args.key c.args.at c.in-Some.cause (sym c.requires.shared.unbound ∙ c.in-Some.is)

pub returns-in-None : goal.returns-in-None
returns-in-None c =
    c.unbound_at.ensures ∙ c.requires.part.unbound
    ∙ unbound_here (facts_value c.args.facts) c.args.key c.args.at (sym c.requires.shared.unbound ∙ c.in-None.is)

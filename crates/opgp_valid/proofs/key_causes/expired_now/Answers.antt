use Rattle.std.proofs.Common.{◌∙◌, ap, false, sym}
use Rattle.opgp_valid.specs.Cause.{expired_by}
use Rattle.opgp_valid.specs.Facts.{facts_value}
use Rattle.opgp_valid.specs.declared.saying.Saying.{Saying}
use Rattle.opgp_valid.proofs.PartCauses.{expired_here, expired_there}
use Rattle.opgp_valid.proofs.key_causes.expired_now.Goals as goal

pub returns-in-Some : goal.returns-in-Some
returns-in-Some c = expired_there (facts_value c.args.facts) c.args.key c.args.at c.in-Some.cause (sym c.requires.shared.expired ∙ c.in-Some.is)

pub returns-in-None : goal.returns-in-None
returns-in-None c =
    c.expired_by.ensures ∙ c.requires.part.expired c.args.own.end
    ∙ ap (λ (s : Saying). expired_by (facts_value c.args.facts) c.args.key false c.args.at s.end) c.requires.own
    ∙ expired_here (facts_value c.args.facts) c.args.key c.args.at (sym c.requires.shared.expired ∙ c.in-None.is)

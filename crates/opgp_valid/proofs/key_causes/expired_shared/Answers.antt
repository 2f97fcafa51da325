use Rattle.std.proofs.Common.{◌∙◌, ap, sym}
use Rattle.opgp_valid.specs.Facts.{facts_value}
use Rattle.opgp_valid.specs.declared.saying.Saying.{Saying}
use Rattle.opgp_valid.proofs.PartCauses.{expired_found}
use Rattle.opgp_valid.proofs.key_causes.expired_shared.Goals as goal

pub returns-then-has_ended : goal.returns-then-has_ended
returns-then-has_ended c =
    expired_found (facts_value c.args.facts) c.args.at c.args.saying.end c.expired_by.result (ap (λ (s : Saying). s.end) c.requires) (sym c.has_ended.ensures ∙ c.if-has_ended.true) c.expired_by.ensures

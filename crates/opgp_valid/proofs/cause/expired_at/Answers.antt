use Rattle.std.proofs.Common.{◌∙◌, ap}
use Rattle.opgp_valid.specs.Cause.{expired_at, expired_by}
use Rattle.opgp_valid.specs.Facts.{facts_value}
use Rattle.opgp_valid.specs.declared.saying.Saying.{Saying}
use Rattle.opgp_valid.proofs.cause.expired_at.Goals as goal

pub returns : goal.returns
unfolding expired_at
returns c =
    c.expired_by.ensures
    ∙ ap (λ (s : Saying). expired_by (facts_value c.args.facts) c.args.key c.args.is_now c.args.at s.end) c.own_saying-own.ensures

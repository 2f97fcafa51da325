use Rattle.std.proofs.Common.{◌∙◌, Bor}
use Rattle.opgp_valid.specs.Cause.{has_lack, is_lacking}
use Rattle.opgp_valid.specs.Facts.{facts_value}
use Rattle.opgp_valid.specs.declared.statement.Statement.{Statement}
use Rattle.opgp_valid.proofs.Causes.{found_some}
use Rattle.opgp_valid.proofs.cause.has_lack.Goals as goal

pub returns : goal.returns
unfolding has_lack
returns c =
    c.is_some.ensures
    ∙ found_some (λ (s : Bor Statement). s.now) (is_lacking (facts_value c.args.facts) c.args.key c.args.at c.args.lack) c.args.facts.statements.now c.first_lacking.result c.first_lacking.ensures

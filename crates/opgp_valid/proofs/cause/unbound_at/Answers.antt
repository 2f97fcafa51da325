use Rattle.std.proofs.Common.{◌∙◌, ap}
use Rattle.opgp_valid.specs.Cause.{lacking_by, unbound_at, unbound_by}
use Rattle.opgp_valid.specs.Facts.{facts_value}
use Rattle.opgp_valid.proofs.cause.unbound_at.Goals as goal

pub returns-in-Some : goal.returns-in-Some
unfolding unbound_at
returns-in-Some c =
    c.lacking_by.ensures
    ∙ ap (lacking_by c.args.key c.args.is_now c.in-Some.lack) c.first_lacking-statement.ensures
    ∙ ap (unbound_by (facts_value c.args.facts) c.args.key c.args.is_now c.args.at) c.in-Some.ensures

pub returns-in-None : goal.returns-in-None
unfolding unbound_at
returns-in-None c = c.of_key.ensures ∙ ap (unbound_by (facts_value c.args.facts) c.args.key c.args.is_now c.args.at) c.in-None.ensures

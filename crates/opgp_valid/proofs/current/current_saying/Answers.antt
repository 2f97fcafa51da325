use Rattle.opgp_valid.proofs.NewestOf.{gathered_all, gathered_more}
use Rattle.opgp_valid.proofs.current.current_saying.Goals as goal

pub steps-preserved : goal.steps-preserved
steps-preserved c =
    rw (c.with_current-newest.ensures, c.latest_at-last.ensures)
    (gathered_more c.args.group c.args.created c.args.at c.args.statements.now c.steps.steps c.in-Some.next c.in-Some.step c.steps.last c.steps.newest c.steps.invariant c.in-Some.ensures.some)

pub returns : goal.returns
returns c = gathered_all c.args.group c.args.created c.args.at c.args.statements.now c.steps.steps c.steps.last c.steps.newest c.steps.invariant c.in_default.ensures.none

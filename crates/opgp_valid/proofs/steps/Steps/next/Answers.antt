use Rattle.std.proofs.Common.{refl}
use Rattle.opgp_valid.proofs.Stepping.{is_ahead, stepped}
use Rattle.opgp_valid.proofs.steps.Steps.next.Goals as goal

pub returns-clause-some : goal.returns-clause-some
returns-clause-some c = λ ss done h.
    record {
      passed = stepped ss done c.args.self h c.in-Some.statement.now c.in-Some.more.now c.in-Some.ensures.cases.0 _ refl refl refl refl;
      component = refl;
      part = c.part_for-part.ensures ss done h (is_ahead ss done c.args.self h c.in-Some.statement.now c.in-Some.more.now c.in-Some.ensures.cases.0);
    }

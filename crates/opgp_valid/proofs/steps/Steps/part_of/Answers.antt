use Rattle.std.proofs.Common.{◌∙◌, sym}
use Rattle.opgp_valid.proofs.Stepping.{run_there}
use Rattle.opgp_valid.proofs.steps.Steps.part_of.Goals as goal

pub returns : goal.returns
returns c = λ ss done h k e p.
    run_there ss done c.args.self h c.in-Some.number c.split.result.0.now c.if-not-self.false c.split.ensures.before k (sym c.in-Some.is ∙ e) p

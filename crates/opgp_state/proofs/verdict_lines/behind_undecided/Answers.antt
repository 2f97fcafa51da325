use Rattle.opgp_state.proofs.Verdicts.{undecided_missed}
use Rattle.opgp_state.proofs.verdict_lines.behind_undecided.Goals as goal

pub returns-in-Some-clause-none : goal.returns-in-Some-clause-none
returns-in-Some-clause-none c = undecided_missed c.args.octets.now c.in-Some.more.now c.behind_doubt.result c.in-Some.ensures.some c.behind_doubt.ensures.none

pub returns-in-None-clause-none : goal.returns-in-None-clause-none
returns-in-None-clause-none c = λ rest h. c.in-None.ensures.none h.0 h.1

use Rattle.opgp_state.proofs.Verdicts.{doubt_missed}
use Rattle.opgp_state.proofs.verdict_lines.behind_doubt.Goals as goal

pub returns-in-Some-behind-clause-none : goal.returns-in-Some-behind-clause-none
returns-in-Some-behind-clause-none c = doubt_missed c.args.octets.now c.in-Some-behind.word.now c.behind_reason.result c.in-None.ensures.none c.in-Some-behind.ensures.some c.behind_reason.ensures.none

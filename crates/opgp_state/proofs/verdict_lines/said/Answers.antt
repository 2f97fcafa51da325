use Rattle.opgp_state.proofs.Verdicts.{says_missed}
use Rattle.opgp_state.proofs.verdict_lines.said.Goals as goal

pub returns-in-None-behind-clause-none : goal.returns-in-None-behind-clause-none
returns-in-None-behind-clause-none c = says_missed c.args.octets.now c.undecided.result c.in-None.ensures.none c.in-None-behind.ensures.none c.undecided.ensures.none

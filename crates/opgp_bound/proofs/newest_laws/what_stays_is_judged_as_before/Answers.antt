use Rattle.opgp_bound.proofs.Handed.{judged_before, rest_handed}
use Rattle.opgp_bound.proofs.newest_laws.what_stays_is_judged_as_before.Goals as goal

pub returns-clause-judged : goal.returns-clause-judged
returns-clause-judged c = judged_before

pub returns-clause-rest : goal.returns-clause-rest
returns-clause-rest c = rest_handed

use Rattle.opgp_report.proofs.Rewriting.{one_asks, one_keys}
use Rattle.opgp_report.proofs.laws.one_certificate_asks_the_same.Goals as goal

pub returns-clause-questions : goal.returns-clause-questions
returns-clause-questions c = one_asks

pub returns-clause-keys : goal.returns-clause-keys
returns-clause-keys c = one_keys

use Rattle.opgp_report.proofs.Rewriting.{normal_asks, normal_keys}
use Rattle.opgp_report.proofs.laws.normal_keyrings_ask_the_same.Goals as goal

pub returns-clause-questions : goal.returns-clause-questions
returns-clause-questions c = normal_asks

pub returns-clause-keys : goal.returns-clause-keys
returns-clause-keys c = normal_keys

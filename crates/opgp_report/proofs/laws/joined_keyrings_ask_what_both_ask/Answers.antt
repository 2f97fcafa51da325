use Rattle.opgp_report.proofs.Scanning.{joined_asks, joined_keys}
use Rattle.opgp_report.proofs.laws.joined_keyrings_ask_what_both_ask.Goals as goal

pub returns-clause-questions : goal.returns-clause-questions
returns-clause-questions c = joined_asks

pub returns-clause-keys : goal.returns-clause-keys
returns-clause-keys c = joined_keys

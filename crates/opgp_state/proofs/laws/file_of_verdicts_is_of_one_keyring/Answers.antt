use Rattle.opgp_state.proofs.Heads.{one_digest, verdicts_once}
use Rattle.opgp_state.proofs.laws.file_of_verdicts_is_of_one_keyring.Goals as goal

pub returns-clause-digest : goal.returns-clause-digest
returns-clause-digest c = one_digest

pub returns-clause-once : goal.returns-clause-once
returns-clause-once c = verdicts_once

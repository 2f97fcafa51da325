use Rattle.opgp_keyring.proofs.DetachedLaws.{some_detached_answer as answered}
use Rattle.opgp_keyring.proofs.laws.some_detached_answer.Goals as goal

pub returns : goal.returns
returns c = answered c.some_signed_answer.ensures

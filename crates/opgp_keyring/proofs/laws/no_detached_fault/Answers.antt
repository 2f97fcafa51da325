use Rattle.opgp_keyring.proofs.DetachedLaws.{no_detached_fault as never}
use Rattle.opgp_keyring.proofs.laws.no_detached_fault.Goals as goal

pub returns : goal.returns
returns c = never

use Rattle.opgp_keyring.proofs.SignedLaws.{no_signed_fault as never}
use Rattle.opgp_keyring.proofs.laws.no_signed_fault.Goals as goal

pub returns : goal.returns
returns c = never

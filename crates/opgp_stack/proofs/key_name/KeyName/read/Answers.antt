use Rattle.opgp_stack.proofs.KeyTexts.{too_long}
use Rattle.opgp_stack.proofs.key_name.KeyName.read.Goals as goal

pub returns-in-None-clause-none : goal.returns-in-None-clause-none
returns-in-None-clause-none c key said = too_long c.args.octets.now key c.in-None.ensures.none said

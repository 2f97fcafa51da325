use Rattle.opgp_stack.proofs.Times.{seconds_missed}
use Rattle.opgp_stack.proofs.time.seconds_in.Goals as goal

pub returns-in-Err-clause-none : goal.returns-in-Err-clause-none
returns-in-Err-clause-none c = seconds_missed c.args.text.now c.in-Err.ensures.value.0

use Rattle.opgp_stack.proofs.Times.{day_missed}
use Rattle.opgp_stack.proofs.time.day_in.Goals as goal

pub returns-then-octets-ne10-clause-none : goal.returns-then-octets-ne10-clause-none
returns-then-octets-ne10-clause-none c = day_missed c.args.octets.now c.if-octets-ne10.true

use Rattle.opgp_stack.proofs.Times.{long_missed}
use Rattle.opgp_stack.proofs.time.date_in.Goals as goal

pub returns-then-octets-ne20-clause-none : goal.returns-then-octets-ne20-clause-none
returns-then-octets-ne20-clause-none c = long_missed c.args.octets.now c.if-octets-ne20.true

use Rattle.std.proofs.Common.{arith}
use Rattle.opgp_tables.proofs.Counting.{three_parts}
use Rattle.opgp_tables.proofs.job_filler.put_three.Goals as goal

pub returns-clause-end : goal.returns-clause-end
returns-clause-end c = omega (arith, three_parts c.args.a.now c.args.b.now c.args.c.now)

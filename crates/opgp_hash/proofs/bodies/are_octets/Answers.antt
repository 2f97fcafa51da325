use Rattle.std.proofs.Common.{arith}
use Rattle.opgp_hash.proofs.bodies.are_octets.Goals as goal

pub returns : goal.returns
returns c = λ i. omega (arith, c.type_inv.o i)

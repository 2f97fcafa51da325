use Rattle.std.proofs.Common.{arith}
use Rattle.opgp_packet.specs.Key.{key_in}
use Rattle.opgp_packet.proofs.KeyLaws.{counted, lying}
use Rattle.opgp_packet.proofs.key.KeyPlacesBody.read.Goals as goal

pub returns-clause-exact : goal.returns-clause-exact
returns-clause-exact c = counted (λ p. key_in p c.args.o.now) c.args.o.now c.read_fields.result (λ i. omega (arith, c.type_inv.o i)) c.read_fields.ensures.exact

pub returns-clause-within : goal.returns-clause-within
returns-clause-within c = lying c.args.o.now c.read_fields.result (λ i. omega (arith, c.type_inv.o i)) c.read_fields.ensures.exact c.read_fields.ensures.within c.read_fields.ensures.shape

use Rattle.std.proofs.Common.{arith}
use Rattle.opgp_octets.proofs.PacketLens.{packet_len_is_found, packet_len_is_none}
use Rattle.opgp_octets.proofs.packet_len.read_len.Goals as goal

pub returns-clause-found : goal.returns-clause-found
returns-clause-found c = packet_len_is_found c.args.o.now c.len_of.result (λ i. omega (arith, c.type_inv.o i)) c.len_of.ensures

pub returns-clause-none : goal.returns-clause-none
returns-clause-none c = packet_len_is_none c.args.o.now c.len_of.result c.len_of.ensures

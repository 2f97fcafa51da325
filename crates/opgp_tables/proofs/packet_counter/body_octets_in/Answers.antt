use Rattle.std.proofs.Common.{ap, length, arith}
use Rattle.opgp_tables.specs.Packets.{bodies}
use Rattle.opgp_tables.proofs.packet_counter.body_octets_in.Goals as goal

pub returns : goal.returns
returns c = omega (arith, ap (λ l. length (bodies l)) c.in_default.ensures.0, c.members.invariant.octets, c.members.invariant.most)

use Rattle.std.proofs.Common.{length, arith, ◌-◌}
use Rattle.opgp_packet.proofs.AreaLaws.{inside_octets}
use Rattle.opgp_packet.proofs.subpacket.Subpacket.read.Goals as goal

pub invariant_of-result-clause-fits : goal.invariant_of-result-clause-fits
invariant_of-result-clause-fits c = c.in-Some.ensures.found.fits

pub invariant_of-result-clause-each : goal.invariant_of-result-clause-each
invariant_of-result-clause-each c =
    inside_octets c.args.o.now c.split_at.result.1.now c.split_at-2.result.0.now c.in-Some.count (c.amount-amount.result - 1) (length c.split_at.result.1.now - 1)
    (λ i. omega (arith, c.type_inv.o i)) c.split_at.ensures.back c.split_at-2.ensures.front

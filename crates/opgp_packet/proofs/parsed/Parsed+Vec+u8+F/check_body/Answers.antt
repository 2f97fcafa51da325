use Rattle.std.proofs.Common.{arith}
use Rattle.opgp_packet.proofs.GrammarLaws.{checked_fault, checked_none, checked_found}
use Rattle.opgp_packet.proofs.parsed.Parsed+Vec+u8+F.check_body.Goals as goal

pub returns-clause-fault : goal.returns-clause-fault
returns-clause-fault g c = checked_fault g.F.Body.grammar c.args.o.now c.fault.result (λ i. omega (arith, c.type_inv.o i)) c.fault.ensures

pub returns-clause-none : goal.returns-clause-none
returns-clause-none g c = checked_none g.F.Body.grammar c.args.o.now c.fault.result c.fault.ensures

pub returns-clause-found : goal.returns-clause-found
returns-clause-found g c = checked_found g.F.Body.grammar c.args.o.now c.fault.result (λ i. omega (arith, c.type_inv.o i)) c.fault.ensures

use Rattle.std.proofs.Common.{arith}
use Rattle.opgp_packet.specs.Parsed.{body_fields}
use Rattle.opgp_packet.proofs.GrammarLaws.{parsed_found, parsed_only, parsed_fault, body_refused}
use Rattle.opgp_packet.proofs.parsed.Parsed+Vec+u8+F.parse_body.Goals as goal

pub returns-clause-found : goal.returns-clause-found
returns-clause-found g c = parsed_found (λ p. body_fields p) g.F.Body.grammar c.args.o.now c.read.result (λ i. omega (arith, c.type_inv.o i)) c.read.ensures.exact

pub returns-clause-only : goal.returns-clause-only
returns-clause-only g c = parsed_only (λ p. body_fields p) g.F.Body.grammar c.args.o.now c.read.result c.read.ensures.exact

pub returns-clause-fault : goal.returns-clause-fault
returns-clause-fault g c = parsed_fault (λ p. body_fields p) g.F.Body.grammar c.args.o.now c.read.result (λ i. omega (arith, c.type_inv.o i)) c.read.ensures.exact

pub returns-clause-refuses : goal.returns-clause-refuses
returns-clause-refuses g c = λ f first. c.read.ensures.refuses f (body_refused g.F.Body.grammar c.args.o.now f (λ i. omega (arith, c.type_inv.o i)) first)

use Rattle.std.proofs.Common.{arith}
use Rattle.opgp_packet.specs.Signature.{signature_value}
use Rattle.opgp_packet.proofs.SignatureLaws.{parsed_found, parsed_only, parsed_fault, sig_refused}
use Rattle.opgp_packet.proofs.signature.Signature.parse_body.Goals as goal

pub returns-clause-found : goal.returns-clause-found
returns-clause-found c = parsed_found signature_value c.args.o.now c.read.result (λ i. omega (arith, c.type_inv.o i)) c.read.ensures.exact

pub returns-clause-only : goal.returns-clause-only
returns-clause-only c = parsed_only signature_value c.args.o.now c.read.result (λ i. omega (arith, c.type_inv.o i)) c.read.ensures.exact

pub returns-clause-fault : goal.returns-clause-fault
returns-clause-fault c = parsed_fault signature_value c.args.o.now c.read.result (λ i. omega (arith, c.type_inv.o i)) c.read.ensures.exact

pub returns-clause-refuses : goal.returns-clause-refuses
returns-clause-refuses c = λ f first. c.read.ensures.refuses f (sig_refused c.args.o.now f (λ i. omega (arith, c.type_inv.o i)) first)

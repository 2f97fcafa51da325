use Rattle.std.proofs.Common.{arith}
use Rattle.opgp_packet.specs.SigView.{sig_view_value}
use Rattle.opgp_packet.proofs.SignatureLaws.{parser_found, parser_only, parser_fault}
use Rattle.opgp_packet.proofs.sig_view.SigView.parse_body.Goals as goal

pub returns-clause-found : goal.returns-clause-found
returns-clause-found c = parser_found sig_view_value c.args.o.now c.read.result (λ i. omega (arith, c.type_inv.o i)) c.read.ensures.exact

pub returns-clause-only : goal.returns-clause-only
returns-clause-only c = parser_only sig_view_value c.args.o.now c.read.result (λ i. omega (arith, c.type_inv.o i)) c.read.ensures.exact

pub returns-clause-fault : goal.returns-clause-fault
returns-clause-fault c = parser_fault sig_view_value c.args.o.now c.read.result (λ i. omega (arith, c.type_inv.o i)) c.read.ensures.exact

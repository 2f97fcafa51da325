use Rattle.opgp_packet.specs.Signature.{signature_value}
use Rattle.opgp_packet.proofs.SignatureLaws.{parser_found, parser_only, parser_fault}
use Rattle.opgp_packet.proofs.signature.Signature.from_body.Goals as goal

pub returns-clause-found : goal.returns-clause-found
returns-clause-found c = parser_found signature_value c.args.body.items c.keep.result c.keep.ensures.octets c.keep.ensures.exact

pub returns-clause-fault : goal.returns-clause-fault
returns-clause-fault c = parser_fault signature_value c.args.body.items c.keep.result c.keep.ensures.octets c.keep.ensures.exact

pub returns-clause-only : goal.returns-clause-only
returns-clause-only c = parser_only signature_value c.args.body.items c.keep.result c.keep.ensures.octets c.keep.ensures.exact

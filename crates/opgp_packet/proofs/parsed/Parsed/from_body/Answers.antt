use Rattle.opgp_packet.specs.Parsed.{body_fields}
use Rattle.opgp_packet.proofs.GrammarLaws.{parser_found, parser_only, parser_fault}
use Rattle.opgp_packet.proofs.parsed.Parsed.from_body.Goals as goal

pub returns-clause-found : goal.returns-clause-found
returns-clause-found g c = parser_found (λ p. body_fields p) g.F.Body.grammar (g.B.Octets.octets c.args.body) c.keep.result c.keep.ensures.octets c.keep.ensures.exact

pub returns-clause-fault : goal.returns-clause-fault
returns-clause-fault g c = parser_fault (λ p. body_fields p) g.F.Body.grammar (g.B.Octets.octets c.args.body) c.keep.result c.keep.ensures.octets c.keep.ensures.exact

pub returns-clause-only : goal.returns-clause-only
returns-clause-only g c = parser_only (λ p. body_fields p) g.F.Body.grammar (g.B.Octets.octets c.args.body) c.keep.result c.keep.ensures.exact

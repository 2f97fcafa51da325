use Rattle.opgp_packet.specs.Parsed.{body_fields}
use Rattle.opgp_packet.proofs.GrammarLaws.{body_found}
use Rattle.opgp_packet.proofs.parsed.Parsed+ref+slice+u8+F.body.Goals as goal

pub returns-clause-spelled : goal.returns-clause-spelled
returns-clause-spelled g c = let p = c.args.self.now in body_found g.F.Body.grammar p.body.now (body_fields p) p.octets p.parses

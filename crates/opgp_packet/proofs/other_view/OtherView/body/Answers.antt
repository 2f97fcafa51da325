use Rattle.opgp_packet.specs.SignatureBody.{of_other}
use Rattle.opgp_packet.proofs.SignatureLaws.{sig_found}
use Rattle.opgp_packet.proofs.other_view.OtherView.body.Goals as goal

pub returns-clause-other : goal.returns-clause-other
returns-clause-other c = let v = c.args.self.now in (sig_found v.body.now (of_other v.body.now) v.octets v.parses).1

use Rattle.opgp_packet.specs.Parsed.{body_octets}
use Rattle.opgp_packet.proofs.GrammarLaws.{body_found}
use Rattle.opgp_packet.specs.SignatureBody.{version_three}
use Rattle.opgp_packet.specs.Three.{three_fields, three_value}
use Rattle.opgp_packet.proofs.ThreeLaws.{algorithm_known}
use Rattle.opgp_packet.proofs.three.Parsed+B+ThreePlaces.algorithm.Goals as goal

pub returns-clause-known : goal.returns-clause-known
returns-clause-known g c =
    let v = c.args.self.now in
    algorithm_known (three_value v) (body_octets v) (body_found version_three (body_octets v) (three_fields (three_value v)) v.octets v.parses) (rw (← c.from-read.ensures.0) c.from-read.ensures.1)

use Rattle.opgp_packet.proofs.GrammarLaws.{body_found}
use Rattle.opgp_packet.specs.AreasValue.{areas_fields, areas_value}
use Rattle.opgp_packet.specs.SignatureBody.{with_areas}
use Rattle.opgp_packet.proofs.AreasLaws.{salt_sized}
use Rattle.opgp_packet.proofs.areas.Parsed+ref+slice+u8+AreaPlaces+V.salt.Goals as goal

pub returns-clause-size : goal.returns-clause-size
returns-clause-size g c = λ is n e.
    let v = c.args.self.now in
    let b = (body_found (with_areas g.row.V) v.body.now (areas_fields (areas_value v)) v.octets v.parses) in
    rw c.lend.ensures (salt_sized (areas_value v) v.body.now n is b e)

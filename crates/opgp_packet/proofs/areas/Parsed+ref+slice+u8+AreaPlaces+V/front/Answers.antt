use Rattle.std.proofs.Common.{refl}
use Rattle.opgp_packet.proofs.GrammarLaws.{body_found}
use Rattle.opgp_packet.specs.AreasValue.{areas_fields, areas_value, hashed_start}
use Rattle.opgp_packet.specs.SignatureBody.{with_areas}
use Rattle.opgp_packet.proofs.AreasLaws.{sound_area, front_lies, ends_at}
use Rattle.opgp_packet.proofs.areas.Parsed+ref+slice+u8+AreaPlaces+V.front.Goals as goal

pub returns-clause-value : goal.returns-clause-value
returns-clause-value g c =
    let v = c.args.self.now in
    let value = areas_value v in
    let b = (body_found (with_areas g.row.V) v.body.now (areas_fields (areas_value v)) v.octets v.parses) in
    front_lies value v.body.now b v.places.hashed.end (sound_area v.places.hashed v.body.now value.hashed v.octets v.within.hashed_sound refl)
    (ends_at v.places.hashed v.body.now (hashed_start g.row.V) v.within.first v.within.hashed.0 v.within.hashed.1)

use Rattle.std.proofs.Common.{refl}
use Rattle.opgp_packet.proofs.GrammarLaws.{body_found}
use Rattle.opgp_packet.specs.AreasValue.{areas_fields, areas_value}
use Rattle.opgp_packet.specs.SignatureBody.{with_areas}
use Rattle.opgp_packet.proofs.AreasLaws.{sound_area, unhashed_shorter}
use Rattle.opgp_packet.proofs.areas.Parsed+ref+slice+u8+AreaPlaces+V.unhashed_area.Goals as goal

pub returns-clause-area : goal.returns-clause-area
returns-clause-area g c = let v = c.args.self.now in sound_area v.places.unhashed v.body.now c.lend.result.now v.octets v.within.unhashed_sound c.lend.ensures

pub returns-clause-shorter : goal.returns-clause-shorter
returns-clause-shorter g c = λ is.
    let v = c.args.self.now in
    let value = areas_value v in
    let b = (body_found (with_areas g.row.V) v.body.now (areas_fields (areas_value v)) v.octets v.parses) in
    rw c.lend.ensures (unhashed_shorter g.row.V value v.body.now is b refl (sound_area v.places.unhashed v.body.now value.unhashed v.octets v.within.unhashed_sound refl))

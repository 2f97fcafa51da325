use Rattle.std.proofs.Common.{◌≤◌, List, [], Result, Some, length, arith, length-append, ap, sym, subst, refl}
use Rattle.opgp_octets.specs.declared.fault.BodyFault.{BodyFault}
use Rattle.opgp_packet.specs.SignatureBody.{SignatureValue}
use Rattle.opgp_packet.specs.Subpackets.{Sub}
use Rattle.opgp_packet.specs.Subs.{subs_to_come}
use Rattle.opgp_tables.specs.DocumentJobs.{read_shown, signature_place}
use Rattle.opgp_tables.specs.Filling.{Fills}
use Rattle.opgp_tables.specs.Subpackets.{area_octets, octets_read, rows_read}
use Rattle.opgp_tables.proofs.Filling.{nothing}
use Rattle.opgp_tables.proofs.FilledSubpackets.{areas_fill, areas_met}
use Rattle.opgp_tables.proofs.document_subpackets.put_subpackets.Goals as goal

-- octets that aren't a signature have none
pub returns-in_default : goal.returns-in_default
returns-in_default c =
    let within : c.args.here.rows ≤ length c.args.rows.now = omega (arith, c.requires.rows) in
    let room : c.args.here.bytes ≤ length c.args.bytes.now = omega (arith, c.requires.bytes) in
    subst (λ (read : Result SignatureValue BodyFault). Fills (rows_read (signature_place c.args.number) c.args.here.bytes read) (octets_read read) c.args.here c.args.here c.args.rows.now c.args.rows.now c.args.bytes.now c.args.bytes.now)
    (sym (ap read_shown c.in_default.is)) (nothing c.args.here c.args.rows.now c.args.bytes.now within room)

pub put_areas-requires-clause-rows : goal.put_areas-requires-clause-rows
put_areas-requires-clause-rows c =
    let hashed : List Sub = subs_to_come c.in-Some.hashed in
    let unhashed : List Sub = subs_to_come c.in-Some.unhashed in
    let areas = areas_met c.signature_place.result c.args.here.bytes (Some c.in-Ok.view) c.in-Ok.view (read_shown c.args.read) hashed unhashed refl (ap read_shown c.in-Ok.is) c.in-Some.ensures in
    omega (arith, c.requires.rows, ap (λ (l : List Sub). length l) areas.1, length-append hashed unhashed)

pub put_areas-requires-clause-bytes : goal.put_areas-requires-clause-bytes
put_areas-requires-clause-bytes c =
    let hashed : List Sub = subs_to_come c.in-Some.hashed in
    let unhashed : List Sub = subs_to_come c.in-Some.unhashed in
    let areas = areas_met c.signature_place.result c.args.here.bytes (Some c.in-Ok.view) c.in-Ok.view (read_shown c.args.read) hashed unhashed refl (ap read_shown c.in-Ok.is) c.in-Some.ensures in
    omega (arith, c.requires.bytes, ap (λ o. length o) areas.2, length-append (area_octets hashed) (area_octets unhashed))

pub returns-in-Some : goal.returns-in-Some
returns-in-Some c =
    areas_fill c.signature_place.result (signature_place c.args.number) (read_shown c.args.read) c.in-Ok.view (subs_to_come c.in-Some.hashed) (subs_to_come c.in-Some.unhashed)
    c.args.here c.put_areas.result c.args.rows.now c.put_areas.new.rows c.args.bytes.now c.put_areas.new.bytes c.signature_place.ensures (ap read_shown c.in-Ok.is) c.in-Some.ensures c.put_areas.ensures

-- nor has a signature without areas
pub returns-in-None : goal.returns-in-None
returns-in-None c =
    let within : c.args.here.rows ≤ length c.args.rows.now = omega (arith, c.requires.rows) in
    let room : c.args.here.bytes ≤ length c.args.bytes.now = omega (arith, c.requires.bytes) in
    areas_fill (signature_place c.args.number) (signature_place c.args.number) (read_shown c.args.read) c.in-Ok.view [] [] c.args.here c.args.here c.args.rows.now c.args.rows.now c.args.bytes.now c.args.bytes.now
    refl (ap read_shown c.in-Ok.is) (sym c.in-None.ensures.0, sym c.in-None.ensures.1) (nothing c.args.here c.args.rows.now c.args.bytes.now within room)

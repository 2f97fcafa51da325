use Rattle.std.proofs.Common.{List, refl}
use borrow.Rule.Slice.Mut.{set_vals}
use Rattle.opgp_hash.specs.CertificateHasher.{hasher_subject}
use Rattle.opgp_packet.specs.SignatureBody.{signature_at}
use Rattle.opgp_packet.specs.Subpackets.{Sub}
use Rattle.opgp_packet.specs.Subs.{subs_to_come}
use Rattle.opgp_report.specs.Standing.{Standing, stands}
use Rattle.opgp_tables.specs.declared.subpacket_filler.SubpacketFiller.{SubpacketFiller}
use Rattle.opgp_tables.proofs.FilledSubpackets.{areas_met, sub_step}
use Rattle.opgp_tables.proofs.subpacket_filler.SubpacketFillerVisitor.meet.Goals as goal

-- the rows of a signature
pub returns-clause-shown : goal.returns-clause-shown
returns-clause-shown c body reads more end f =
    let old : SubpacketFiller = c.args.self.now in
    let new : SubpacketFiller = record {
      rows = set_vals c.put_areas-self.new.rows old.rows;
      bytes = set_vals c.put_areas-self.new.bytes old.bytes;
      here = c.put_areas-self.result;
    } in
    let s : Standing = stands c.args.met.now.site c.args.met.now.place (hasher_subject c.args._hasher.now) body in
    let hashed : List Sub = subs_to_come c.in-Some-areas_in.hashed in
    let unhashed : List Sub = subs_to_come c.in-Some-areas_in.unhashed in
    let areas = areas_met s.place old.here.bytes c.args.met.now.signature c.in-Some.signature (signature_at body) hashed unhashed c.in-Some.is reads c.in-Some-areas_in.ensures in
    sub_step old new s more hashed unhashed areas.0 areas.1 areas.2 c.put_areas-self.ensures c.put_areas-self.auto.rows c.put_areas-self.auto.bytes refl refl end f

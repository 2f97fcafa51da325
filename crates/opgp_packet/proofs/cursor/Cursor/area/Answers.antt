use Rattle.std.proofs.Common.{length, drop, sym, ap, ◌∙◌}
use Rattle.opgp_packet.specs.AreaLength.{extent_of}
use Rattle.opgp_packet.specs.AreaReading.{fault_in}
use Rattle.opgp_packet.specs.Spans.{octets_in}
use Rattle.opgp_packet.proofs.AreaLaws.{sound_anywhere}
use Rattle.opgp_packet.proofs.ExtentLaws.{area_step_ok, area_step_bad, area_step_none, ends_there}
use Rattle.opgp_packet.proofs.cursor.Cursor.area.Goals as goal

pub returns-in-Some-clause-reads : goal.returns-in-Some-clause-reads
returns-in-Some-clause-reads c =
    let s = c.args.self.now in
    let p = c.in-Ok.place in
    area_step_bad (length s.body.now) (extent_of c.args.width) (drop s.at s.body.now) (octets_in p s.body.now) (drop p.end s.body.now) p.end c.in-Some.fault c.in-Ok.ensures.reads
    (ends_there s.body.now p.end c.in-Ok.ensures.within.1) (ap (fault_in p.end) (sym c.lend.ensures) ∙ sym c.in-Some.ensures)

pub returns-in-None-clause-reads : goal.returns-in-None-clause-reads
returns-in-None-clause-reads c =
    let s = c.args.self.now in
    let p = c.in-Ok.place in
    area_step_ok (length s.body.now) (extent_of c.args.width) (drop s.at s.body.now) (octets_in p s.body.now) (drop p.end s.body.now) p.end c.in-Ok.ensures.reads
    (ends_there s.body.now p.end c.in-Ok.ensures.within.1) (ap (fault_in p.end) (sym c.lend.ensures) ∙ sym c.in-None.ensures)

pub returns-in-None-clause-sound : goal.returns-in-None-clause-sound
returns-in-None-clause-sound c =
    let s = c.args.self.now in
    let p = c.in-Ok.place in
    sound_anywhere p.end (length (octets_in p s.body.now)) (octets_in p s.body.now) (ap (fault_in p.end) (sym c.lend.ensures) ∙ sym c.in-None.ensures)

pub returns-in-Err-clause-reads : goal.returns-in-Err-clause-reads
returns-in-Err-clause-reads c =
    let s = c.args.self.now in
    area_step_none (length s.body.now) (extent_of c.args.width) (drop s.at s.body.now) c.in-Err.fault c.in-Err.ensures.reads

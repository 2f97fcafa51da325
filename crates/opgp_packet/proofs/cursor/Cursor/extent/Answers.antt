use Rattle.opgp_packet.proofs.ExtentLaws.{cut_two, cut_four}
use Rattle.opgp_packet.proofs.cursor.Cursor.extent.Goals as goal

pub returns-in-Some-clause-reads : goal.returns-in-Some-clause-reads
returns-in-Some-clause-reads c =
    let s = c.args.self.now in
    let cut = cut_two s.body.now c.rest-rest.result.now c.in-Some.field-0-1.now s.at c.in-Some.count c.rest-rest.ensures c.in-Some.ensures.value c.in-Some.ensures.rest in
    rw (c.in-Two.is, cut) c.behind.ensures.reads

pub returns-in-Some-u32_at-clause-reads : goal.returns-in-Some-u32_at-clause-reads
returns-in-Some-u32_at-clause-reads c =
    let s = c.args.self.now in
    let cut = cut_four s.body.now c.rest-rest.result.now c.in-Some-u32_at.field-0-1.now s.at c.in-Some-u32_at.count c.rest-rest.ensures c.in-Some-u32_at.ensures.value c.in-Some-u32_at.ensures.rest in
    rw (c.in-Four.is, cut) c.behind-in-Some-u32_at.ensures.reads

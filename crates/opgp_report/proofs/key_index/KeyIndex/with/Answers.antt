use Rattle.std.proofs.Common.{rules, ap}
use Rattle.opgp_report.specs.First.{has_print}
use Rattle.opgp_report.proofs.FirstLaws.{id_noted, noted, passed_by, sized_more}
use Rattle.opgp_report.proofs.key_index.KeyIndex.with.Goals as goal

pub invariant_of-result : goal.invariant_of-result
invariant_of-result c =
    let old = c.args.self.prints.items in
    let new = c.push.new.self.items in
    let more = c.in_ok-push.ensures.items in
    record {
      sized = sized_more old new c.args.print more c.args.self.sized (rw c.in-Four.is (search rules));
      fours = noted (has_print 4) c.args.self.four old new c.args.print more c.args.self.fours c.note.new.map c.in-Four.octets c.len-at.result (search rules) (λ o. ap (has_print 4 o) c.in-Four.is) c.in_ok-note-in-Four.ensures;
      sixes = passed_by (has_print 6) c.args.self.six old new c.args.print more c.args.self.sixes (λ o. ap (has_print 6 o) c.in-Four.is);
      by_id = id_noted c.args.self.ids c.note_id.new.ids old new c.args.print c.key_id.result.0 c.len-at.result more c.args.self.by_id (search rules) c.key_id.ensures c.in_ok-note_id.ensures;
    }

pub invariant_of-result-in-Six : goal.invariant_of-result-in-Six
invariant_of-result-in-Six c =
    let old = c.args.self.prints.items in
    let new = c.push.new.self.items in
    let more = c.in_ok-push.ensures.items in
    record {
      sized = sized_more old new c.args.print more c.args.self.sized (rw c.in-Six.is (search rules));
      fours = passed_by (has_print 4) c.args.self.four old new c.args.print more c.args.self.fours (λ o. ap (has_print 4 o) c.in-Six.is);
      sixes = noted (has_print 6) c.args.self.six old new c.args.print more c.args.self.sixes c.note-in-Six.new.map c.in-Six.octets c.len-at.result (search rules) (λ o. ap (has_print 6 o) c.in-Six.is) c.in_ok-note-in-Six.ensures;
      by_id = id_noted c.args.self.ids c.note_id.new.ids old new c.args.print c.key_id.result.0 c.len-at.result more c.args.self.by_id (search rules) c.key_id.ensures c.in_ok-note_id.ensures;
    }

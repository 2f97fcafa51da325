use Rattle.std.proofs.Common.{rules, length}
use Rattle.opgp_blocks.specs.View.{found_value, left_of}
use Rattle.opgp_handles.proofs.FoundRows.{all_bytes, all_rows, bytes_more, fewer, row_is, row_more}
use Rattle.opgp_handles.proofs.finding.found_tables.Goals as goal

pub found-preserved : goal.found-preserved
found-preserved c =
    let v = c.found.invariant in
    let f = found_value c.in-Some.block in
    let is = c.in-Some.ensures.some in
    let m = c.in_ok-write.ensures.ok in
    record {
      rows =
          row_more c.found.rows.items c.push.new.self.items _ c.found.octets.items c.write.new.out.items _ f _ (left_of c.next.new.self) is v.rows c.in_ok-push.ensures.items
          (row_is c.at.result c.size.result c.len.result c.cleaned_len.result (length c.found.octets.items) f c.at.ensures c.size.ensures (search rules) c.cleaned_len.ensures) m;
      octets = bytes_more c.found.octets.items c.write.new.out.items _ f _ (left_of c.next.new.self) is v.octets m;
    }

pub found-smaller : goal.found-smaller
found-smaller c = fewer (found_value c.in-Some.block) _ (left_of c.next.new.self) c.in-Some.ensures.some

pub returns : goal.returns
returns c =
    let v = c.found.invariant in
    let none = c.in_default.ensures.none in
    (all_rows c.found.rows.items _ (length c.found.octets.items) _ none v.rows, all_bytes c.found.octets.items _ _ none v.octets)

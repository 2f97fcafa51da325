use Rattle.std.proofs.Common.{ℕ, List, arith}
use Rattle.opgp_cleartext.proofs.Joining.{put_line}
use Rattle.opgp_cleartext.proofs.writing.fill_joined.Goals as goal

pub lines-preserved : goal.lines-preserved
lines-preserved c =
    let l : List ℕ = c.in-Some-line_at.line.now in
    record {
      within = c.in-Some-line_at.ensures.within.1;
      filled =
          put_line c.args.table.now c.lines.table c.put_at-in-Some-line_at.new.table c.put_at-in-Some-line_at-2.new.table c.args.between.now c.args.text.now c.shown_line-shown.result.now
          c.lines.at c.in-Some-line_at.next c.lines.count l _ c.in-Some-line_at.ensures.some c.shown_line-shown.ensures c.lines.invariant.filled
          c.put_at-in-Some-line_at.ensures c.put_at-in-Some-line_at-2.ensures;
      room = omega (arith, c.lines.invariant.room, c.put_at-in-Some-line_at.auto.table, c.put_at-in-Some-line_at-2.auto.table);
    }

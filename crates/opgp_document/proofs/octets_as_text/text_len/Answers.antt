use Rattle.std.proofs.Common.{arith}
use Rattle.opgp_document.proofs.Feeding.{last_length, line_length}
use Rattle.opgp_document.proofs.octets_as_text.text_len.Goals as goal

pub lines-preserved : goal.lines-preserved
lines-preserved c =
    let h = c.in-Some.ensures.some in
    let v = c.lines.invariant in
    let size = line_length c.args.after_cr c.args.octets.now c.lines.start c.in-Some.end h.0 h.1 h.2 in
    record {
      within = omega (arith, h.1);
      few = omega (arith, h.0, v.few);
      counted = omega (arith, h.0, v.counted, size);
    }

pub returns : goal.returns
returns c =
    let size = last_length c.args.after_cr c.args.octets.now c.lines.start c.in_default.ensures.none in
    omega (arith, size, c.lines.invariant.counted, c.lines.invariant.within)

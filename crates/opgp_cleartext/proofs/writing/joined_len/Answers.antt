use Rattle.std.proofs.Common.{◌<◌, ◌*◌, ℕ, List, length, ap, arith}
use Rattle.opgp_cleartext.proofs.Joining.{counted_first, counted_more, shown_few}
use Rattle.opgp_cleartext.proofs.writing.joined_len.Goals as goal

pub lines-init : goal.lines-init
lines-init c =
    let l : List ℕ = c.in-Some.first.now in
    let size = ap (length {A = ℕ}) c.shown_line-count.ensures in
    record {
      within = c.in-Some.ensures.within.1;
      counted = omega (arith, size, counted_first c.args.between.now c.args.text.now c.in-Some.next l c.in-Some.ensures.some);
      few = omega (arith, size, shown_few l, c.in-Some.ensures.within);
      fewer = λ h. omega (arith, size, shown_few l, c.in-Some.ensures.within, c.in-Some.ensures.ended);
    }

pub overflow_add-count-in-Some-line_at : goal.overflow_add-count-in-Some-line_at
overflow_add-count-in-Some-line_at c =
    let l : List ℕ = c.in-Some-line_at.line.now in
    let size = ap (length {A = ℕ}) c.shown_line.ensures in
    omega (arith, size, shown_few l, c.in-Some-line_at.ensures.within, c.lines.invariant.fewer (omega (arith, c.in-Some-line_at.ensures.within)))

pub lines-preserved : goal.lines-preserved
lines-preserved c =
    let l : List ℕ = c.in-Some-line_at.line.now in
    let size = ap (length {A = ℕ}) c.shown_line.ensures in
    let before : c.lines.count < 2 * c.lines.at = c.lines.invariant.fewer (omega (arith, c.in-Some-line_at.ensures.within)) in
    record {
      within = c.in-Some-line_at.ensures.within.1;
      counted = omega (arith, size, counted_more c.args.between.now c.args.text.now c.lines.at c.in-Some-line_at.next c.lines.count _ l c.in-Some-line_at.ensures.some c.lines.invariant.counted);
      few = omega (arith, size, shown_few l, before, c.in-Some-line_at.ensures.within, c.in-Some-line_at.ensures.ended);
      fewer = λ h. omega (arith, size, shown_few l, before, c.in-Some-line_at.ensures.within, c.in-Some-line_at.ensures.ended);
    }

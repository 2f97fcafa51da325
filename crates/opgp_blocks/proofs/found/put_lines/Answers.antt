use Rattle.std.proofs.Common.{◌∙◌, ◌-◌, ◌+◌, ◌≡◌, ◌++◌, ℕ, List, ap, length, arith}
use Rattle.opgp_blocks.specs.Blocks.{lines_from}
use Rattle.opgp_blocks.specs.View.{shown_value}
use Rattle.opgp_blocks.proofs.Rests.{all_written, line_room, line_written, lines_none}
use Rattle.opgp_blocks.proofs.found.put_lines.Goals as goal

pub put-requires : goal.put-requires
put-requires c =
    let e : c.lines.left ≡ c.lines.left - 1 + 1 = omega arith in
    record {
      room = omega (arith, c.lines.invariant.room, line_room c.args.text.now c.lines.at c.in-Some.line.next c.lines.left (c.lines.left - 1) (shown_value c.in-Some.line) e c.in-Some.ensures.some);
    }

pub put-requires-in-lines : goal.put-requires-in-lines
put-requires-in-lines c =
    let e : c.lines.left ≡ c.lines.left - 1 + 1 = omega arith in
    record {
      room = omega (
        arith,
        c.lines.invariant.room,
        c.put.ensures.len,
        c.put.ensures.capacity,
        ap (length {A = ℕ}) c.as_slice.ensures,
        line_room c.args.text.now c.lines.at c.in-Some.line.next c.lines.left (c.lines.left - 1) (shown_value c.in-Some.line) e c.in-Some.ensures.some,
      );
    }

pub lines-preserved : goal.lines-preserved
lines-preserved c =
    let e : c.lines.left ≡ c.lines.left - 1 + 1 = omega arith in
    record {
      within = c.in-Some.ensures.within.1;
      written =
          line_written c.args.text.now c.args.out.now.items c.lines.out.items c.put.new.out.items c.put-in-lines.new.out.items c.lines.at c.in-Some.line.next c.lines.left (c.lines.left - 1)
          (shown_value c.in-Some.line) _ e c.in-Some.ensures.some c.lines.invariant.written c.put.ensures.items
          (c.put-in-lines.ensures.items ∙ ap (λ (o : List ℕ). c.put.new.out.items ++ o) c.as_slice.ensures);
      room = omega (
        arith,
        c.lines.invariant.room,
        c.put.ensures.len,
        c.put.ensures.capacity,
        c.put-in-lines.ensures.len,
        c.put-in-lines.ensures.capacity,
        ap (length {A = ℕ}) c.as_slice.ensures,
        line_room c.args.text.now c.lines.at c.in-Some.line.next c.lines.left (c.lines.left - 1) (shown_value c.in-Some.line) e c.in-Some.ensures.some,
      );
    }

pub returns-in_default : goal.returns-in_default
returns-in_default c =
    all_written c.args.text.now c.lines.at c.lines.left _ _ (lines_none c.args.text.now c.lines.at c.lines.left c.in_default.ensures.none) c.lines.invariant.written

pub returns : goal.returns
returns c =
    let none : c.lines.left ≡ 0 = omega arith in
    all_written c.args.text.now c.lines.at c.lines.left _ _ (ap (λ (n : ℕ). lines_from n c.lines.at c.args.text.now) none) c.lines.invariant.written

use Rattle.std.proofs.Common.{◌∙◌, sym, arith}
use Rattle.opgp_blocks.specs.View.{shown_value}
use Rattle.opgp_blocks.proofs.Rests.{pass, rest_closes, rest_ends, rest_stops}
use Rattle.opgp_blocks.proofs.searching.rest_of_block.Goals as goal

pub returns-then-begins-clause-lines : goal.returns-then-begins-clause-lines
returns-then-begins-clause-lines c =
    (rest_stops c.args.text.now (shown_value c.args.begin) c.args.begin.next c.lines.rest.lines c.lines.rest.end c.lines.rest.wanted c.lines.rest.next c.in-Some.line.next (shown_value c.in-Some.line) c.lines.invariant.passed c.in-Some.ensures.some (sym c.begins.ensures ∙ c.if-begins.true)).lines_are

pub returns-then-begins-clause-end : goal.returns-then-begins-clause-end
returns-then-begins-clause-end c =
    (rest_stops c.args.text.now (shown_value c.args.begin) c.args.begin.next c.lines.rest.lines c.lines.rest.end c.lines.rest.wanted c.lines.rest.next c.in-Some.line.next (shown_value c.in-Some.line) c.lines.invariant.passed c.in-Some.ensures.some (sym c.begins.ensures ∙ c.if-begins.true)).end_is

pub returns-then-begins-clause-wanted : goal.returns-then-begins-clause-wanted
returns-then-begins-clause-wanted c =
    (rest_stops c.args.text.now (shown_value c.args.begin) c.args.begin.next c.lines.rest.lines c.lines.rest.end c.lines.rest.wanted c.lines.rest.next c.in-Some.line.next (shown_value c.in-Some.line) c.lines.invariant.passed c.in-Some.ensures.some (sym c.begins.ensures ∙ c.if-begins.true)).wanted_is

pub returns-then-ends-clause-lines : goal.returns-then-ends-clause-lines
returns-then-ends-clause-lines c =
    (rest_closes c.args.text.now (shown_value c.args.begin) c.args.begin.next c.lines.rest.lines c.lines.rest.end c.lines.rest.wanted c.lines.rest.next c.in-Some.line.next (shown_value c.in-Some.line) c.lines.invariant.passed c.in-Some.ensures.some (sym c.begins.ensures ∙ c.if-begins.false) (sym c.ends.ensures ∙ c.if-ends.true)).lines_are

pub returns-then-ends-clause-end : goal.returns-then-ends-clause-end
returns-then-ends-clause-end c =
    (rest_closes c.args.text.now (shown_value c.args.begin) c.args.begin.next c.lines.rest.lines c.lines.rest.end c.lines.rest.wanted c.lines.rest.next c.in-Some.line.next (shown_value c.in-Some.line) c.lines.invariant.passed c.in-Some.ensures.some (sym c.begins.ensures ∙ c.if-begins.false) (sym c.ends.ensures ∙ c.if-ends.true)).end_is

pub returns-then-ends-clause-wanted : goal.returns-then-ends-clause-wanted
returns-then-ends-clause-wanted c =
    (rest_closes c.args.text.now (shown_value c.args.begin) c.args.begin.next c.lines.rest.lines c.lines.rest.end c.lines.rest.wanted c.lines.rest.next c.in-Some.line.next (shown_value c.in-Some.line) c.lines.invariant.passed c.in-Some.ensures.some (sym c.begins.ensures ∙ c.if-begins.false) (sym c.ends.ensures ∙ c.if-ends.true)).wanted_is

pub returns-then-ends-clause-next : goal.returns-then-ends-clause-next
returns-then-ends-clause-next c =
    (rest_closes c.args.text.now (shown_value c.args.begin) c.args.begin.next c.lines.rest.lines c.lines.rest.end c.lines.rest.wanted c.lines.rest.next c.in-Some.line.next (shown_value c.in-Some.line) c.lines.invariant.passed c.in-Some.ensures.some (sym c.begins.ensures ∙ c.if-begins.false) (sym c.ends.ensures ∙ c.if-ends.true)).next_is

pub returns-clause-lines : goal.returns-clause-lines
returns-clause-lines c =
    (rest_ends c.args.text.now (shown_value c.args.begin) c.args.begin.next c.lines.rest.lines c.lines.rest.end c.lines.rest.wanted c.lines.rest.next c.lines.invariant.passed c.in_default.ensures.none).lines_are

pub returns-clause-end : goal.returns-clause-end
returns-clause-end c =
    (rest_ends c.args.text.now (shown_value c.args.begin) c.args.begin.next c.lines.rest.lines c.lines.rest.end c.lines.rest.wanted c.lines.rest.next c.lines.invariant.passed c.in_default.ensures.none).end_is

pub returns-clause-wanted : goal.returns-clause-wanted
returns-clause-wanted c =
    (rest_ends c.args.text.now (shown_value c.args.begin) c.args.begin.next c.lines.rest.lines c.lines.rest.end c.lines.rest.wanted c.lines.rest.next c.lines.invariant.passed c.in_default.ensures.none).wanted_is

pub lines-preserved : goal.lines-preserved
lines-preserved c =
    let v = c.lines.invariant in
    let e = c.in-Some.ensures in
    record {
      passed = pass c.args.text.now (shown_value c.args.begin) c.args.begin.next c.lines.rest.lines c.lines.rest.end c.lines.rest.wanted c.lines.rest.next c.in-Some.line.next (shown_value c.in-Some.line) c.lines.invariant.passed c.in-Some.ensures.some (sym c.begins.ensures ∙ c.if-begins.false) (sym c.ends.ensures ∙ c.if-ends.false);
      within = e.within.1;
      end = omega (arith, v.start, e.content.0);
      start = omega (arith, v.start, e.within.0);
      few = omega (arith, v.few, e.within.0);
      small = omega (arith, v.small, e.within.0, e.content.0, e.content.1);
    }

use Rattle.std.proofs.Common.{◌∙◌, sym}
use Rattle.opgp_blocks.specs.View.{shown_value}
use Rattle.opgp_blocks.proofs.Rests.{found_begin, found_none, passed_line}
use Rattle.opgp_blocks.proofs.searching.next_begin.Goals as goal

pub returns-then-begins-clause-some : goal.returns-then-begins-clause-some
returns-then-begins-clause-some c =
    found_begin c.args.text.now c.args.at c.lines.first c.in-Some.line.next (shown_value c.in-Some.line) c.lines.invariant.left c.in-Some.ensures.some (sym c.begins.ensures ∙ c.if-begins.true)

pub lines-preserved : goal.lines-preserved
lines-preserved c = record {
  within = c.in-Some.ensures.within.1;
  left =
      passed_line c.args.text.now c.args.at c.lines.first c.in-Some.line.next (shown_value c.in-Some.line) c.lines.invariant.left c.in-Some.ensures.some (sym c.begins.ensures ∙ c.if-begins.false);
}

pub returns-clause-none : goal.returns-clause-none
returns-clause-none c = found_none c.args.text.now c.args.at c.lines.first c.lines.invariant.left c.in_default.ensures.none

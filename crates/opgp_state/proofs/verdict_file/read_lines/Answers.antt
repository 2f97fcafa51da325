use Rattle.std.proofs.Common.{◌∙◌, ◌+◌, List, ap, arith, map, sym, subst}
use Rattle.std.proofs.lemmas.Bool.{eqb-true}
use Rattle.std.proofs.lemmas.List.{nil_from_length}
use Rattle.opgp_report.specs.Row.{row_value}
use Rattle.opgp_report.specs.declared.row.Row.{Row}
use Rattle.opgp_report.specs.declared.verifier.Verdict.{Verdict}
use Rattle.opgp_state.proofs.Lines.{ReadSoFar, read_all, read_more, read_stopped}
use Rattle.opgp_state.proofs.verdict_file.read_lines.Goals as goal

pub returns-in-None : goal.returns-in-None
returns-in-None c = read_stopped (map row_value c.args.rows.now) c.args.file.now c.rows.verdicts.items c.rows.number (row_value c.in-Some.row.now) (map row_value c.in-Some.more.now) c.rows.left.now (map row_value c.rows.rest.now) (ap (λ (l : List Row). map row_value l) c.in-Some.ensures.cases.0) c.rows.invariant.read (rw c.in-None.is at c.in_ok-line.ensures.none)

pub rows-preserved : goal.rows-preserved
rows-preserved c = record {
  read = subst (λ (l : List Verdict). ReadSoFar (map row_value c.args.rows.now) c.args.file.now l (c.rows.number + 1) (map row_value c.in-Some.more.now) c.in-Some-2.line.rest.now) (sym c.in_ok-push.ensures.items)
      (read_more (map row_value c.args.rows.now) c.args.file.now c.rows.verdicts.items c.rows.number (row_value c.in-Some.row.now) (map row_value c.in-Some.more.now) c.rows.left.now c.in-Some-2.line.verdict c.in-Some-2.line.rest.now (map row_value c.rows.rest.now) (ap (λ (l : List Row). map row_value l) c.in-Some.ensures.cases.0) c.rows.invariant.read (rw c.in-Some-2.is at c.in_ok-line.ensures.some));
  count = omega (arith, c.in-Some.ensures.cases.1, c.rows.invariant.count);
}

pub returns-then-is_empty : goal.returns-then-is_empty
returns-then-is_empty c = read_all (map row_value c.args.rows.now) c.args.file.now c.rows.verdicts.items c.rows.number (map row_value c.rows.rest.now) c.rows.left.now (ap (λ (l : List Row). map row_value l) (nil_from_length c.rows.rest.now c.in_default.ensures.cases)) (nil_from_length c.rows.left.now (eqb-true _ _ (sym c.is_empty.ensures ∙ c.if-is_empty.true))) c.rows.invariant.read

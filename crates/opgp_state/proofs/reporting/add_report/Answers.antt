use Rattle.std.proofs.Common.{arith, ◌+◌, List, ap, map}
use Rattle.std.proofs.lemmas.List.{nil_from_length}
use Rattle.opgp_report.specs.declared.row.Row.{Row}
use Rattle.opgp_report.specs.Row.{row_value}
use Rattle.opgp_io.proofs.Extended.{extends_all_left, extends_broken_left, extends_less_left, extends_nothing_left}
use Rattle.opgp_state.specs.Report.{report_lines}
use Rattle.opgp_state.proofs.reporting.add_report.Goals as goal

pub rows-init : goal.rows-init
rows-init g c = record { but = extends_all_left c.requires; count = omega arith }

pub returns-in_err-add_row : goal.returns-in_err-add_row
returns-in_err-add_row g c =
    extends_broken_left (report_lines (c.rows.number + 1) (map row_value c.in-Some.more.now)) c.rows.invariant.but (ap (λ (l : List Row). report_lines c.rows.number (map row_value l)) c.in-Some.ensures.cases.0) c.from_residual.ensures.0 c.in_err-add_row.ensures

pub rows-preserved : goal.rows-preserved
rows-preserved g c = record {
  but = extends_less_left c.rows.invariant.but (ap (λ (l : List Row). report_lines c.rows.number (map row_value l)) c.in-Some.ensures.cases.0) c.in_ok-add_row.ensures;
  count = omega (arith, c.in-Some.ensures.cases.1, c.rows.invariant.count);
}

pub returns : goal.returns
returns g c = extends_nothing_left c.rows.invariant.but (ap (λ (l : List Row). report_lines c.rows.number (map row_value l)) (nil_from_length c.rows.rest.now c.in_default.ensures.cases))

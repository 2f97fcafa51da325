use Rattle.std.proofs.Common.{◌+◌, List, ap, arith, length, map}
use Rattle.std.proofs.lemmas.List.{length-map}
use Rattle.opgp_report.specs.Fingerprinted.{FingerprintedValue}
use Rattle.opgp_report.specs.Fingerprinting.{rows_to_come}
use Rattle.opgp_report.specs.IssuerName.{name_value}
use Rattle.opgp_report.specs.KeyIndex.{prints_shown}
use Rattle.opgp_report.specs.Row.{row_value}
use Rattle.opgp_report.proofs.Fingerprints.{few_found}
use Rattle.opgp_io.proofs.Extended.{extends_all_left, extends_broken_left, extends_less_left, extends_nothing_left}
use Rattle.opgp_state.specs.Report.{fingerprinted_lines}
use Rattle.opgp_state.proofs.reporting.add_fingerprinted_report.Goals as goal

pub rows-init : goal.rows-init
rows-init g c =
    let rows = c.args.rows in
    let few = few_found (prints_shown rows.keys.now) rows.primaries.now (map row_value rows.rows.now) (map name_value rows.names.now) in
    record { but = extends_all_left c.requires; few = omega (arith, few, length-map rows.rows.now row_value, rows.few) }

pub rows-preserved : goal.rows-preserved
rows-preserved g c = record {
  but = extends_less_left c.rows.invariant.but (ap (λ (l : List FingerprintedValue). fingerprinted_lines c.rows.number l) c.in-Some.ensures.steps) c.in_ok-add_fingerprinted_row.ensures;
  few = omega (arith, ap (λ (l : List FingerprintedValue). length l) c.in-Some.ensures.steps, c.rows.invariant.few);
}

pub returns-in_err-add_fingerprinted_row : goal.returns-in_err-add_fingerprinted_row
returns-in_err-add_fingerprinted_row g c =
    extends_broken_left (fingerprinted_lines (c.rows.number + 1) (rows_to_come c.next.new.self)) c.rows.invariant.but (ap (λ (l : List FingerprintedValue). fingerprinted_lines c.rows.number l) c.in-Some.ensures.steps) c.from_residual.ensures.0
    c.in_err-add_fingerprinted_row.ensures

pub returns : goal.returns
returns g c = extends_nothing_left c.rows.invariant.but (ap (λ (l : List FingerprintedValue). fingerprinted_lines c.rows.number l) c.in_default.ensures.steps.0)

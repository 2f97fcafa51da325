use Rattle.std.proofs.Common.{◌≡◌, ◌∙◌, arith, ◌+◌, ℕ, List, ◌∷◌, ◌++◌, ap, map}
use Rattle.opgp_report.specs.declared.row.Row.{Row}
use Rattle.opgp_report.specs.Row.{row_value}
use Rattle.opgp_io.proofs.Extended.{extends_broken_left, extends_less_left}
use Rattle.opgp_state.specs.Places.{placed_line, placed_lines}
use Rattle.opgp_state.specs.declared.row_place.RowPlace.{RowPlace}
use Rattle.opgp_state.proofs.reporting.add_placed_report.Goals as goal

-- the line of the first row, and those of the others
first_line : (n : ℕ) (row : Row) (rows rest : List Row) (place : RowPlace) (places left : List RowPlace) → rest ≡ row ∷ rows → left ≡ place ∷ places
    → placed_lines n (map row_value rest) left ≡ placed_line n (row_value row) place ++ placed_lines (n + 1) (map row_value rows) places
first_line n row rows rest place places left e f =
    ap (λ (l : List Row). placed_lines n (map row_value l) left) e ∙ ap (λ (l : List RowPlace). placed_lines n (map row_value (row ∷ rows)) l) f

pub returns-in_err-add_placed_row : goal.returns-in_err-add_placed_row
returns-in_err-add_placed_row g c =
    extends_broken_left (placed_lines (c.rows.number + 1) (map row_value c.in-Some.more.now) c.in-Some-split_first.others.now) c.rows.invariant.but
    (first_line c.rows.number c.in-Some.row.now c.in-Some.more.now c.rows.rest.now c.in-Some-split_first.place.now c.in-Some-split_first.others.now c.rows.left.now c.in-Some.ensures.cases.0 c.in-Some-split_first.ensures.cases.0)
    c.from_residual.ensures.0 c.in_err-add_placed_row.ensures

pub rows-preserved : goal.rows-preserved
rows-preserved g c = record {
  but = extends_less_left c.rows.invariant.but
      (first_line c.rows.number c.in-Some.row.now c.in-Some.more.now c.rows.rest.now c.in-Some-split_first.place.now c.in-Some-split_first.others.now c.rows.left.now c.in-Some.ensures.cases.0 c.in-Some-split_first.ensures.cases.0)
      c.in_ok-add_placed_row.ensures;
  count = omega (arith, c.in-Some.ensures.cases.1, c.rows.invariant.count);
}

use Rattle.std.proofs.Common.{◌≡◌, ◌++◌, map, take, drop}
use Rattle.opgp_report.specs.IssuerName.{name_value}
use Rattle.opgp_report.specs.KeyIndex.{prints_shown}
use Rattle.opgp_report.specs.Row.{row_value}
use Rattle.opgp_report.specs.RowMaker.{signed_rows}
use Rattle.opgp_report.proofs.row_maker.sign_rows.Given as goal

-- the rows so far, and those that are to come with the names that are left, are all
abbrev pub invariant-loop-row : goal.invariant-loop-row
invariant-loop-row l =
    map row_value (take l.row-index l.row-items) ++ signed_rows (prints_shown l.keys) (map row_value (drop l.row-index l.row-items)) (map name_value l.left)
    ≡ signed_rows (prints_shown l.keys) (map row_value l.fn.rows.items) (map name_value l.issuers)

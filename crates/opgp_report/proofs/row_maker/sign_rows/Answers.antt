use Rattle.std.proofs.Common.{map, arith}
use Rattle.opgp_report.specs.IssuerName.{name_value}
use Rattle.opgp_report.specs.KeyIndex.{prints_shown}
use Rattle.opgp_report.proofs.Unsigned.{one_signed}
use Rattle.opgp_report.proofs.row_maker.sign_rows.Goals as goal

pub loop-row-preserved : goal.loop-row-preserved
loop-row-preserved c =
    one_signed (prints_shown c.args.keys.now) c.loop-row.row-items c.loop-row.row-index _ c.sign_row-left.new.row (map name_value c.loop-row.left.now) (map name_value c.sign_row-left.result.now) _ (omega arith) c.sign_row-left.ensures c.loop-row.invariant

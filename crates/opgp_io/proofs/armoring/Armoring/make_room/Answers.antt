use Rattle.std.proofs.Common.{◌≡◌, ap, length, arith}
use Rattle.opgp_io.specs.Armoring.{row_of}
use Rattle.opgp_io.proofs.Rows.{row_waited, row_waited_broken, rows_nothing, rows_stop}
use Rattle.opgp_io.proofs.armoring.Armoring.make_room.Goals as goal

pub returns-then-octets-lt-ROW-clause-written : goal.returns-then-octets-lt-ROW-clause-written
returns-then-octets-lt-ROW-clause-written g c = rows_nothing c.no_octets_have_no_data_lines.ensures _ c.requires

pub returns-in_err-add_waiting-clause-written : goal.returns-in_err-add_waiting-clause-written
returns-in_err-add_waiting-clause-written g c =
    let e = ap length c.octets.ensures.value in
    let full : length (row_of c.args.self.now) ≡ 48 = omega arith in
    rows_stop _ _ c.from_residual.result _ c.from_residual.ensures.0 (row_waited_broken _ _ _ full c.in_err-add_waiting.ensures.written)

pub returns-clause-written : goal.returns-clause-written
returns-clause-written g c =
    let e = ap length c.octets.ensures.value in
    let full : length (row_of c.args.self.now) ≡ 48 = omega arith in
    row_waited _ _ full c.clear.ensures c.in_ok-add_waiting.ensures.written

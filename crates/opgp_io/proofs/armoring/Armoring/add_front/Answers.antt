use Rattle.std.proofs.Common.{◌≡◌, [], ap, length, arith}
use Rattle.std.proofs.lemmas.List.{nil_from_length}
use Rattle.opgp_io.specs.Armoring.{row_of}
use Rattle.opgp_io.proofs.Rows.{row_first, row_first_broken, row_filled, at_err}
use Rattle.opgp_io.proofs.armoring.Armoring.add_front.Goals as goal

pub returns-in_err-add_row-clause-broken : goal.returns-in_err-add_row-clause-broken
returns-in_err-add_row-clause-broken g c =
    let e = ap length c.octets.ensures.value in
    let none : row_of c.args.self.now ≡ [] = nil_from_length (row_of c.args.self.now) (omega arith) in
    at_err c.from_residual.result (row_first_broken _ _ c.args.octets.now none c.if-octets-ge-ROW.true c.in_err-add_row.ensures.written)

pub returns-then-octets-ge-ROW-clause-added : goal.returns-then-octets-ge-ROW-clause-added
returns-then-octets-ge-ROW-clause-added g c =
    let e = ap length c.octets.ensures.value in
    let none : row_of c.args.self.now ≡ [] = nil_from_length (row_of c.args.self.now) (omega arith) in
    row_first _ _ c.args.octets.now none none c.if-octets-ge-ROW.true c.in_ok-add_row.ensures.written

pub returns-clause-added : goal.returns-clause-added
returns-clause-added g c = row_filled c.no_octets_have_no_data_lines.ensures _ _ _ _ c.requires.sound c.fill.ensures.value

use Rattle.std.proofs.Common.{[]}
use Rattle.std.proofs.lemmas.Result.{IfOk-weaker, on_err_weaker}
use Rattle.opgp_io.proofs.Rows.{rows_broken_more, rows_then, rows_broken, at_err}
use Rattle.opgp_io.proofs.armoring.Armoring.add_some.Goals as goal

pub returns-in_err-make_room-clause-broken : goal.returns-in_err-make_room-clause-broken
returns-in_err-make_room-clause-broken g c =
    at_err c.from_residual.result (rows_broken_more _ _ [] c.args.octets.now c.in_err-make_room.ensures.written)

pub returns-clause-added : goal.returns-clause-added
returns-clause-added g c =
    let before = c.in_ok-make_room.ensures.written in
    IfOk-weaker c.add_front.result _ _ (λ n p. rows_then c.data_lines_of_whole_rows_join.ensures _ _ _ [] _ before p) c.add_front.ensures.added

pub returns-clause-broken : goal.returns-clause-broken
returns-clause-broken g c =
    let before = c.in_ok-make_room.ensures.written in
    on_err_weaker c.add_front.result (λ p. rows_broken c.data_lines_of_whole_rows_join.ensures _ _ _ [] _ before p) c.add_front.ensures.broken

use Rattle.std.proofs.Common.{◌++◌, ◌∙◌, [], List, ℕ, ap, not, refl, sym}
use Rattle.std.proofs.lemmas.List.{append-nil}
use Rattle.opgp_io.proofs.Rows.{broken_at}
use Rattle.opgp_codec.proofs.Ways.{bare_none, via_broken, via_nothing, via_then}
use Rattle.opgp_codec.proofs.via.add_part.Goals as goal

pub returns-then-is_none : goal.returns-then-is_none
returns-then-is_none g c = bare_none c.args.armoring.now c.add_both.result (c.is_none.ensures ∙ ap not c.if-is_none.true) c.add_both.ensures

pub returns-in_err-add : goal.returns-in_err-add
returns-in_err-add g c = broken_at _ c.from_residual.result c.from_residual.ensures.0 (via_broken c.args.piece.now refl (via_nothing c.requires) c.in_err-add.ensures)

pub returns-in_err-add-2 : goal.returns-in_err-add-2
returns-in_err-add-2 g c = broken_at _ c.from_residual-in_err-add-2.result c.from_residual-in_err-add-2.ensures.0
    (via_broken [] (ap (λ (v : List ℕ). c.args.header.now ++ v) (sym (append-nil c.args.piece.now))) c.in_ok-add.ensures c.in_err-add-2.ensures)

pub returns : goal.returns
returns g c = via_then refl c.in_ok-add.ensures c.in_ok-add-2.ensures

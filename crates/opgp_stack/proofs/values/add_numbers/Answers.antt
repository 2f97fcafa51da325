use Rattle.std.proofs.Common.{◌++◌, append_assoc, codes, refl}
use Rattle.opgp_io.proofs.Extended.{extends_stop, extends_then}
use Rattle.opgp_stack.specs.Values.{numbers_text}
use Rattle.opgp_stack.proofs.values.add_numbers.Goals as goal

pub returns-in_err-add : goal.returns-in_err-add
returns-in_err-add g c = extends_stop (numbers_text c.args.list.now ++ codes "\n") (append_assoc c.args.word.now (numbers_text c.args.list.now) (codes "\n")) c.from_residual.ensures.0 c.in_err-add.ensures

pub returns-in_err-add_each : goal.returns-in_err-add_each
returns-in_err-add_each g c =
    extends_then {ys = numbers_text c.args.list.now ++ codes "\n"} (append_assoc c.args.word.now (numbers_text c.args.list.now) (codes "\n")) c.in_ok-add.ensures
    (extends_stop {xs = numbers_text c.args.list.now} (codes "\n") refl c.from_residual-in_err-add_each.ensures.0 c.in_err-add_each.ensures)

pub returns : goal.returns
returns g c =
    extends_then {ys = numbers_text c.args.list.now ++ codes "\n"} (append_assoc c.args.word.now (numbers_text c.args.list.now) (codes "\n")) c.in_ok-add.ensures
    (extends_then {xs = numbers_text c.args.list.now} {ys = codes "\n"} refl c.in_ok-add_each.ensures c.add-2.ensures)

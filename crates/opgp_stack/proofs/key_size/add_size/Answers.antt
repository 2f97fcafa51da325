use Rattle.std.proofs.Common.{◌++◌, codes, refl}
use Rattle.opgp_io.proofs.Extended.{extends_stop, extends_then}
use Rattle.opgp_stack.specs.KeySize.{size_text, size_value}
use Rattle.opgp_stack.proofs.key_size.add_size.Goals as goal

pub returns-in_err-add : goal.returns-in_err-add
returns-in_err-add g c =
    extends_stop {xs = codes " size "} (size_text (size_value c.args.size) ++ codes "\n") refl c.from_residual.ensures.0 c.in_err-add.ensures

pub returns-in_err-add_size_text : goal.returns-in_err-add_size_text
returns-in_err-add_size_text g c =
    let text = size_text (size_value c.args.size) in
    extends_then {xs = codes " size "} {ys = text ++ codes "\n"} refl c.in_ok-add.ensures
    (extends_stop {xs = text} (codes "\n") refl c.from_residual-in_err-add_size_text.ensures.0 c.in_err-add_size_text.ensures)

pub returns : goal.returns
returns g c =
    let text = size_text (size_value c.args.size) in
    extends_then {xs = codes " size "} {ys = text ++ codes "\n"} refl c.in_ok-add.ensures
    (extends_then {xs = text} {ys = codes "\n"} refl c.in_ok-add_size_text.ensures c.add-2.ensures)

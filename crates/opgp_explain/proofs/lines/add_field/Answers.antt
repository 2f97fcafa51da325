use Rattle.std.proofs.Common.{◌++◌, refl}
use Rattle.opgp_io.proofs.Extended.{extends_stop, extends_then}
use Rattle.opgp_explain.specs.Lines.{end_text, form_of, octets_in, value_text}
use Rattle.opgp_explain.proofs.lines.add_field.Goals as goal

pub returns-in_err-add_front : goal.returns-in_err-add_front
returns-in_err-add_front g c =
    let f = c.args.field.now in
    extends_stop (value_text (form_of f.meaning) (octets_in c.args.octets.now f) ++ end_text f) refl c.from_residual.ensures.0 c.in_err-add_front.ensures

pub returns-in_err-add_value : goal.returns-in_err-add_value
returns-in_err-add_value g c =
    let f = c.args.field.now in
    extends_then {ys = value_text (form_of f.meaning) (octets_in c.args.octets.now f) ++ end_text f} refl c.in_ok-add_front.ensures
    (extends_stop {xs = value_text (form_of f.meaning) (octets_in c.args.octets.now f)} (end_text f) refl c.from_residual-in_err-add_value.ensures.0 c.in_err-add_value.ensures)

pub returns : goal.returns
returns g c =
    let f = c.args.field.now in
    extends_then {ys = value_text (form_of f.meaning) (octets_in c.args.octets.now f) ++ end_text f} refl c.in_ok-add_front.ensures
    (extends_then {xs = value_text (form_of f.meaning) (octets_in c.args.octets.now f)} {ys = end_text f} refl c.in_ok-add_value.ensures c.add_end.ensures)

use Rattle.std.proofs.Common.{List, ℕ, codes, ◌++◌}
use Rattle.opgp_hash.specs.Fingerprint.{print_octets}
use Rattle.opgp_io.proofs.Extended.{extends_stop, extends_then}
use Rattle.opgp_state.specs.Report.{joined}
use Rattle.opgp_state.specs.StateLines.{key_fields, key_values}
use Rattle.opgp_state.proofs.StateTexts.{key_line}
use Rattle.opgp_state.proofs.state_lines.add_print.Goals as goal

pub returns-in_err-add_fields : goal.returns-in_err-add_fields
returns-in_err-add_fields g c =
    let place = c.args.place in
    let values : List (List ℕ) = key_values place.values c.args.state c.args.cause in
    extends_stop (joined values ++ codes "\n") (key_line place.basis place.certificate place.component (key_fields c.args.word.now (print_octets c.args.print.now) c.args.state) values) c.from_residual.ensures.0 c.in_err-add_fields.ensures

pub returns : goal.returns
returns g c =
    let place = c.args.place in
    extends_then (key_line place.basis place.certificate place.component (key_fields c.args.word.now (print_octets c.args.print.now) c.args.state) (key_values place.values c.args.state c.args.cause)) c.in_ok-add_fields.ensures c.add_end.ensures

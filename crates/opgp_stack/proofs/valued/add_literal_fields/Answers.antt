use Rattle.std.proofs.Common.{ap}
use Rattle.std.specs.Prelude.{length}
use Rattle.opgp_packet.specs.Literal.{literal_value}
use Rattle.opgp_io.proofs.Extended.{extends_stop, extends_then}
use Rattle.opgp_stack.specs.Values.{literal_rest, literal_text}
use Rattle.opgp_stack.proofs.valued.add_literal_fields.Goals as goal

pub returns-in_err-add_format : goal.returns-in_err-add_format
returns-in_err-add_format g c =
    let v = literal_value c.in-Ok.literal in
    extends_stop (literal_rest v.name v.date (length v.content)) (ap literal_text c.in-Ok.ensures.exact) c.from_residual.ensures.0 (rw c.format.ensures at c.in_err-add_format.ensures)

pub returns : goal.returns
returns g c =
    let v = literal_value c.in-Ok.literal in
    extends_then {ys = literal_rest v.name v.date (length v.content)} (ap literal_text c.in-Ok.ensures.exact) (rw c.format.ensures at c.in_ok-add_format.ensures) (rw (c.name.ensures, c.date.ensures, c.content-length.ensures.value) at c.add_literal_rest.ensures)

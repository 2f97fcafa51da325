use Rattle.std.proofs.Common.{refl}
use Rattle.opgp_frame.specs.View.{viewed}
use Rattle.opgp_io.proofs.Extended.{extends_stop, extends_then}
use Rattle.opgp_stack.specs.Showing.{content_lines}
use Rattle.opgp_stack.proofs.showing.add_packet.Goals as goal

pub returns-in_err-add_header : goal.returns-in_err-add_header
returns-in_err-add_header g c =
    let packet = (viewed c.args.placed).packet in
    extends_stop (content_lines packet.kind packet.body) refl c.from_residual.ensures.0 c.in_err-add_header.ensures

pub returns : goal.returns
returns g c = extends_then refl c.in_ok-add_header.ensures (rw (c.kind.ensures.value, c.body.ensures.value) at c.add_content.ensures)

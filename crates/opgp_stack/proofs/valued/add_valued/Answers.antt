use Rattle.std.proofs.Common.{◌≡◌, ◌∙◌, ◌++◌, ℕ, List, ap, refl, sym}
use Rattle.opgp_frame.specs.View.{viewed}
use Rattle.opgp_io.proofs.Extended.{extends_stop, extends_then}
use Rattle.opgp_stack.specs.Showing.{header_line}
use Rattle.opgp_stack.specs.Values.{fields_line}
use Rattle.opgp_stack.proofs.valued.add_valued.Goals as goal

pub returns-in_err-add_header : goal.returns-in_err-add_header
returns-in_err-add_header g c =
    let packet = (viewed c.args.placed).packet in
    extends_stop (fields_line packet.kind packet.body) refl c.from_residual.ensures.0 c.in_err-add_header.ensures

pub returns : goal.returns
returns g c =
    let placed = viewed c.args.placed in
    let kind : fields_line placed.packet.kind placed.packet.body ≡ fields_line c.kind.result placed.packet.body = ap (λ (k : ℕ). fields_line k placed.packet.body) (sym c.kind.ensures.value) in
    let body : fields_line c.kind.result placed.packet.body ≡ fields_line c.kind.result c.body.result.now = ap (λ (o : List ℕ). fields_line c.kind.result o) (sym c.body.ensures.value) in
    extends_then {ys = fields_line c.kind.result c.body.result.now} (ap (λ (o : List ℕ). header_line placed ++ o) (kind ∙ body)) c.in_ok-add_header.ensures c.add_fields.ensures

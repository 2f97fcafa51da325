use Rattle.opgp_io.proofs.Extended.{extends_stop, extends_then}
use Rattle.opgp_state.specs.StateLines.{component_lines}
use Rattle.opgp_state.proofs.StateTexts.{first_part}
use Rattle.opgp_state.proofs.state_lines.add_certificate.Goals as goal

pub returns-in_err-add_primary : goal.returns-in_err-add_primary
returns-in_err-add_primary g c =
    extends_stop (component_lines c.args.basis c.args.values c.args.number 0 c.args.certificate.now.components c.in-Some.components.now c.next_cause-cause.result.1.now) (first_part c.args.basis c.args.values c.args.number c.args.certificate.now c.args.states.now c.in-Some.components.now c.in-Some.primary.now c.args.causes.now c.next_cause-cause.result.1.now c.next_cause-cause.result.0 c.in-Some.ensures.cases.0 c.next_cause-cause.ensures.first c.next_cause-cause.ensures.behind) c.from_residual.ensures.0 c.in_err-add_primary.ensures

pub returns : goal.returns
returns g c =
    extends_then (first_part c.args.basis c.args.values c.args.number c.args.certificate.now c.args.states.now c.in-Some.components.now c.in-Some.primary.now c.args.causes.now c.next_cause-cause.result.1.now c.next_cause-cause.result.0 c.in-Some.ensures.cases.0 c.next_cause-cause.ensures.first c.next_cause-cause.ensures.behind) c.in_ok-add_primary.ensures (rw c.components-parts.ensures.value at c.add_components.ensures)

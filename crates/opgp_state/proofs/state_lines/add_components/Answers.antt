use Rattle.std.proofs.Common.{◌+◌, arith}
use Rattle.std.proofs.lemmas.List.{nil_from_length}
use Rattle.opgp_keyring.specs.Grouped.{component_of, components_left}
use Rattle.opgp_io.proofs.Extended.{extends_all_left, extends_broken_left, extends_less_left, extends_nothing_left}
use Rattle.opgp_state.specs.StateLines.{component_lines}
use Rattle.opgp_state.proofs.StateTexts.{next_component, states_gone}
use Rattle.opgp_state.proofs.state_lines.add_components.Goals as goal

pub states-init : goal.states-init
states-init g c = record { but = extends_all_left c.requires; count = omega arith }

pub returns-in_err-add_component : goal.returns-in_err-add_component
returns-in_err-add_component g c =
    extends_broken_left (component_lines c.args.basis c.args.values c.args.certificate (c.states.number + 1) (components_left c.next.new.self) c.in-Some.more.now c.next_cause-cause.result.1.now) c.states.invariant.but
    (next_component c.args.basis c.args.values c.args.certificate c.states.number (components_left c.states.components) (components_left c.next.new.self) (component_of c.in-Some-next.component) c.states.rest.now c.in-Some.more.now c.in-Some.state.now c.states.left.now c.next_cause-cause.result.1.now c.next_cause-cause.result.0 c.in-Some-next.ensures c.in-Some.ensures.cases.0 c.next_cause-cause.ensures.first c.next_cause-cause.ensures.behind) c.from_residual.ensures.0 c.in_err-add_component.ensures

pub states-preserved : goal.states-preserved
states-preserved g c = record {
  but = extends_less_left c.states.invariant.but
      (next_component c.args.basis c.args.values c.args.certificate c.states.number (components_left c.states.components) (components_left c.next.new.self) (component_of c.in-Some-next.component) c.states.rest.now c.in-Some.more.now c.in-Some.state.now c.states.left.now c.next_cause-cause.result.1.now c.next_cause-cause.result.0 c.in-Some-next.ensures c.in-Some.ensures.cases.0 c.next_cause-cause.ensures.first c.next_cause-cause.ensures.behind) c.in_ok-add_component.ensures;
  count = omega (arith, c.in-Some.ensures.cases.1, c.states.invariant.count);
}

pub returns : goal.returns
returns g c = extends_nothing_left c.states.invariant.but (states_gone c.args.basis c.args.values c.args.certificate c.states.number (components_left c.states.components) c.states.rest.now c.states.left.now (nil_from_length c.states.rest.now c.in_default.ensures.cases))

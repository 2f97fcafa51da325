use Rattle.std.proofs.Common.{◌∙◌, length}
use Rattle.opgp_keyring.specs.Grouped.{component_of, components_left}
use Rattle.opgp_keyring.specs.Keyring.{IsComponent, certificate_packets}
use Rattle.opgp_merge.proofs.Components.{component_more, counted, first_is, rest_are}
use Rattle.opgp_merge.proofs.choosing.add_components.Goals as goal

pub add_component-requires : goal.add_component-requires
add_component-requires c = first_is IsComponent (components_left c.components.components) (components_left c.next.new.self) (component_of c.in-Some.component) c.in-Some.ensures c.components.invariant.sound

pub components-preserved : goal.components-preserved
components-preserved c =
    let l = c.components in
    let left = components_left l.components in
    let rest = components_left c.next.new.self in
    let here = component_of c.in-Some.component in
    record {
      few = counted (length (components_left c.args.components)) l.number c.next_number-number.result left rest here c.in-Some.ensures c.next_number-number.ensures l.invariant.few;
      sound = rest_are IsComponent left rest here c.in-Some.ensures l.invariant.sound;
      value = component_more c.args.own c.args.choice l.number c.next_number-number.result c.component_stays-stays.result (certificate_packets l.chosen) (certificate_packets c.add_component.new.chosen) left rest here c.in-Some.ensures c.component_stays-stays.ensures c.next_number-number.ensures c.in_ok-add_component.ensures ∙ l.invariant.value;
    }

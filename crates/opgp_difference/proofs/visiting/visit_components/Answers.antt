use Rattle.std.proofs.Common.{◌+◌, List, ◌++◌, length, ap}
use Rattle.std.specs.List.{flat_map}
use Rattle.opgp_keyring.specs.Grouped.{component_of, components_left}
use Rattle.opgp_keyring.specs.Keyring.{ComponentValue, component_packets}
use Rattle.opgp_difference.specs.Entries.{component_standing, numbered}
use Rattle.opgp_difference.proofs.Walking.{components_count, more}
use Rattle.opgp_difference.proofs.visiting.visit_components.Goals as goal

pub components-preserved : goal.components-preserved
components-preserved g c = record {
  met = λ met e has knows. more g.V.Visitor.has c.components.visitor c.visit_component.new.visitor met
      (numbered (component_standing e c.args.certificate) 0 (components_left c.args.components))
      (component_standing e c.args.certificate c.components.number (component_of c.in-Some.component))
      (numbered (component_standing e c.args.certificate) (c.components.number + 1) (components_left c.next.new.self))
      (numbered (component_standing e c.args.certificate) c.components.number (components_left c.components.components))
      (ap (λ (l : List ComponentValue). numbered (component_standing e c.args.certificate) c.components.number l) c.in-Some.ensures)
      (λ seen h. c.in_ok-visit_component.ensures.met seen e h (c.components.invariant.keeps met e has knows e c.args.node knows))
      (c.components.invariant.met met e has knows);
  keeps = λ met e has knows f n known.
      let walked = c.components.invariant.met met e has knows in
      c.in_ok-visit_component.ensures.keeps (met ++ walked.0) e walked.1 (c.components.invariant.keeps met e has knows e c.args.node knows) f n (c.components.invariant.keeps met e has knows f n known);
  count = components_count c.components.number (component_of c.in-Some.component) (components_left c.next.new.self) (components_left c.components.components)
      (length (flat_map component_packets (components_left c.args.components))) c.in-Some.ensures c.components.invariant.count;
}

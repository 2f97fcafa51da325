use Rattle.opgp_keyring.specs.Grouped.{component_of, components_left}
use Rattle.opgp_valid.specs.Facts.{facts_value}
use Rattle.opgp_valid.proofs.Parts.{added, counted}
use Rattle.opgp_valid.proofs.states.add_components.Goals as goal

pub components-preserved : goal.components-preserved
components-preserved c = record {
  states = added (facts_value c.args.facts) c.args.at c.components.number c.components.states.items c.push.new.self.items c.part_state.result (component_of c.in-Some.component) (components_left c.components.components) (components_left c.next.new.self) _ c.in-Some.ensures (rw c.next-in-Some.ensures.number at c.part_state.ensures) c.in_ok-push.ensures.items c.components.invariant.states;
  walk = c.next-in-Some.ensures.walk (facts_value c.args.facts).statements c.components.invariant.walk;
  count = counted c.components.number (component_of c.in-Some.component) (components_left c.components.components) (components_left c.next.new.self) _ c.in-Some.ensures c.components.invariant.count;
}

use Rattle.opgp_keyring.specs.Grouped.{component_of, components_left}
use Rattle.opgp_valid.specs.Facts.{facts_value}
use Rattle.opgp_valid.proofs.PartCauses.{added}
use Rattle.opgp_valid.proofs.Parts.{counted}
use Rattle.opgp_valid.proofs.key_causes.add_components.Goals as goal

pub components-preserved : goal.components-preserved
components-preserved c = record {
  causes = added (facts_value c.args.facts) c.args.at c.components.number c.components.causes.items c.push.new.self.items c.part_cause.result (component_of c.in-Some.component) (components_left c.components.components) (components_left c.next.new.self) _ c.in-Some.ensures (rw c.next-in-Some.ensures.number at c.part_cause.ensures) c.in_ok-push.ensures.items c.components.invariant.causes;
  walk = c.next-in-Some.ensures.walk (facts_value c.args.facts).statements c.components.invariant.walk;
  count = counted c.components.number (component_of c.in-Some.component) (components_left c.components.components) (components_left c.next.new.self) _ c.in-Some.ensures c.components.invariant.count;
}

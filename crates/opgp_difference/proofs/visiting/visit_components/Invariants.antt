use Rattle.std.proofs.Common.{◌+◌, ◌≤◌, List, length}
use Rattle.std.specs.List.{flat_map}
use Rattle.opgp_keyring.specs.Grouped.{components_left}
use Rattle.opgp_keyring.specs.Keyring.{component_packets}
use Rattle.opgp_difference.specs.Entries.{Entry, Standing, component_standing, numbered}
use Rattle.opgp_difference.proofs.Walking.{Walked}
use Rattle.opgp_difference.proofs.visiting.visit_components.Given as goal

abbrev pub invariant-components : goal.invariant-components
invariant-components g l = record {
  met : (met : List Standing) (e : Entry) → g.V.Visitor.has l.fn.visitor met → g.V.Visitor.knows l.fn.visitor e l.node
      → Walked g.V.Visitor.has l.visitor met (numbered (component_standing e l.certificate) 0 (components_left l.initial.components)) (numbered (component_standing e l.certificate) l.number (components_left l.components));
  keeps : (met : List Standing) (e : Entry) → g.V.Visitor.has l.fn.visitor met → g.V.Visitor.knows l.fn.visitor e l.node
      → (f : Entry) (n : _) → g.V.Visitor.knows l.fn.visitor f n → g.V.Visitor.knows l.visitor f n;
  count : l.number + length (flat_map component_packets (components_left l.components))
      ≤ length (flat_map component_packets (components_left l.initial.components));
}

abbrev pub decreases-components : goal.decreases-components
decreases-components g l = length (components_left l.components)

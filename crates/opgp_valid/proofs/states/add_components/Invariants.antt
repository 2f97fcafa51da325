use Rattle.std.proofs.Common.{◌≡◌, ◌+◌, ◌≤◌, ◌++◌, length}
use Rattle.std.specs.List.{flat_map}
use Rattle.opgp_keyring.specs.Grouped.{components_left}
use Rattle.opgp_keyring.specs.Keyring.{component_packets}
use Rattle.opgp_valid.specs.Facts.{facts_value}
use Rattle.opgp_valid.specs.States.{states_from}
use Rattle.opgp_valid.specs.Walk.{IsAt}
use Rattle.opgp_valid.proofs.states.add_components.Given as goal

-- the states so far, and those that are to come, are all; and the walk has come as far
abbrev pub invariant-components : goal.invariant-components
invariant-components l = record {
  states : l.states.items ++ states_from (facts_value l.fn.facts) l.at l.number (components_left l.components)
      ≡ l.fn.states.items ++ states_from (facts_value l.fn.facts) l.at 0 (components_left l.initial.components);
  walk : IsAt (facts_value l.fn.facts).statements l.number l.walk;
  count : l.number + length (flat_map component_packets (components_left l.components))
      ≤ length (flat_map component_packets (components_left l.initial.components));
}

abbrev pub decreases-components : goal.decreases-components
decreases-components l = length (components_left l.components)

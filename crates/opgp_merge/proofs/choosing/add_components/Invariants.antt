use Rattle.std.proofs.Common.{◌≡◌, ◌≤◌, ◌+◌, ◌++◌, All, length, map}
use Rattle.std.specs.List.{flat_map}
use Rattle.opgp_keyring.specs.Grouped.{components_left}
use Rattle.opgp_keyring.specs.Keyring.{IsComponent, certificate_packets, component_packets}
use Rattle.opgp_merge.specs.Chosen.{chosen_component, components_from}
use Rattle.opgp_merge.proofs.choosing.add_components.Given as goal

abbrev pub invariant-components : goal.invariant-components
invariant-components l = record {
  few : l.number + length (components_left l.components) ≤ length (components_left l.fn.components);
  sound : All IsComponent (components_left l.components);
  value : certificate_packets l.chosen ++ flat_map component_packets (map (chosen_component l.fn.own) (components_from l.number l.fn.choice (components_left l.components)))
      ≡ certificate_packets l.fn.chosen ++ flat_map component_packets (map (chosen_component l.fn.own) (components_from 0 l.fn.choice (components_left l.fn.components)));
}

abbrev pub decreases-components : goal.decreases-components
decreases-components l = length (components_left l.components)

use Rattle.std.proofs.Common.{◌≡◌, ◌+◌, ◌≤◌, ◌++◌, length}
use Rattle.std.specs.List.{flat_map}
use Rattle.opgp_keyring.specs.Grouped.{components_left}
use Rattle.opgp_keyring.specs.Keyring.{component_packets}
use Rattle.opgp_tables.specs.Keys.{component_material, components_keys}
use Rattle.opgp_tables.proofs.key_table.add_components.Given as goal

-- the rows and octets so far, and those that are to come, are all
abbrev pub invariant-components : goal.invariant-components
invariant-components l = record {
  rows : l.rows.items ++ components_keys l.certificate l.number (length l.bytes.items) (components_left l.components)
      ≡ l.fn.rows.items ++ components_keys l.certificate 0 (length l.fn.bytes.items) (components_left l.initial.components);
  bytes : l.bytes.items ++ flat_map component_material (components_left l.components)
      ≡ l.fn.bytes.items ++ flat_map component_material (components_left l.initial.components);
  count : l.number + length (flat_map component_packets (components_left l.components))
      ≤ length (flat_map component_packets (components_left l.initial.components));
}

abbrev pub decreases-components : goal.decreases-components
decreases-components l = length (components_left l.components)

use Rattle.std.proofs.Common.{◌≡◌, ◌+◌, ◌≤◌, length}
use Rattle.std.specs.List.{flat_map}
use Rattle.opgp_keyring.specs.Grouped.{components_left}
use Rattle.opgp_report.specs.Report.{subkey_bodies}
use Rattle.opgp_tables.specs.Keys.{component_material}
use Rattle.opgp_tables.specs.Sizes.{capped}
use Rattle.opgp_tables.proofs.key_counter.add_components.Given as goal

-- the rows and octets so far, and those that are to come, are all
abbrev pub invariant-components : goal.invariant-components
invariant-components l = record {
  rows : capped (l.sizes.rows + length (flat_map subkey_bodies (components_left l.components)))
      ≡ capped (l.fn.sizes.rows + length (flat_map subkey_bodies (components_left l.initial.components)));
  bytes : capped (l.sizes.bytes + length (flat_map component_material (components_left l.components)))
      ≡ capped (l.fn.sizes.bytes + length (flat_map component_material (components_left l.initial.components)));
  most_rows : l.sizes.rows ≤ 18446744073709551615;
  most_bytes : l.sizes.bytes ≤ 18446744073709551615;
}

abbrev pub decreases-components : goal.decreases-components
decreases-components l = length (components_left l.components)

use Rattle.std.proofs.Common.{◌+◌, ◌≤◌, ℕ, List, length}
use Rattle.std.specs.List.{flat_map}
use Rattle.opgp_keyring.specs.Grouped.{components_left}
use Rattle.opgp_keyring.specs.Keyring.{component_packets}
use Rattle.opgp_tables.specs.declared.packet_row.PacketRow.{PacketRow}
use Rattle.opgp_tables.specs.declared.table_sizes.TableSizes.{TableSizes}
use Rattle.opgp_tables.specs.Filling.{Fills}
use Rattle.opgp_tables.specs.Packets.{bodies, components_rows}
use Rattle.opgp_tables.proofs.packet_table.put_components.Given as goal

-- with those that are to come, all are put, and there is room for them
abbrev pub invariant-components : goal.invariant-components
invariant-components l = record {
  all : (there : TableSizes) (rows : List PacketRow) (bytes : List ℕ)
      → Fills (components_rows l.certificate l.number l.reached.bytes (components_left l.components)) (bodies (flat_map component_packets (components_left l.components))) l.reached there l.rows rows l.bytes bytes
      → Fills (components_rows l.certificate 0 l.fn.here.bytes (components_left l.initial.components)) (bodies (flat_map component_packets (components_left l.initial.components))) l.fn.here there l.fn.rows rows l.fn.bytes bytes;
  count : l.number + length (flat_map component_packets (components_left l.components))
      ≤ length (flat_map component_packets (components_left l.initial.components));
  rows_room : l.reached.rows + length (flat_map component_packets (components_left l.components)) ≤ length l.rows;
  bytes_room : l.reached.bytes + length (bodies (flat_map component_packets (components_left l.components))) ≤ length l.bytes;
}

abbrev pub decreases-components : goal.decreases-components
decreases-components l = length (components_left l.components)

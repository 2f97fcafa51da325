use Rattle.std.proofs.Common.{◌+◌, ◌≤◌, ℕ, List, length}
use Rattle.opgp_packet.specs.Subs.{subs_to_come}
use Rattle.opgp_tables.specs.declared.subpacket_row.SubpacketRow.{SubpacketRow}
use Rattle.opgp_tables.specs.declared.table_sizes.TableSizes.{TableSizes}
use Rattle.opgp_tables.specs.Filling.{Fills}
use Rattle.opgp_tables.specs.Subpackets.{area_octets, area_rows}
use Rattle.opgp_tables.proofs.subpacket_table.put_area.Given as goal

-- with those that are to come, all are put, and there is room for them
abbrev pub invariant-subpackets : goal.invariant-subpackets
invariant-subpackets l = record {
  all : (there : TableSizes) (rows : List SubpacketRow) (bytes : List ℕ)
      → Fills (area_rows l.place l.is_hashed l.reached.bytes (subs_to_come l.subpackets)) (area_octets (subs_to_come l.subpackets)) l.reached there l.rows rows l.bytes bytes
      → Fills (area_rows l.place l.is_hashed l.fn.here.bytes (subs_to_come l.initial.subpackets)) (area_octets (subs_to_come l.initial.subpackets)) l.fn.here there l.fn.rows rows l.fn.bytes bytes;
  rows_room : l.reached.rows + length (subs_to_come l.subpackets) ≤ length l.rows;
  bytes_room : l.reached.bytes + length (area_octets (subs_to_come l.subpackets)) ≤ length l.bytes;
}

abbrev pub decreases-subpackets : goal.decreases-subpackets
decreases-subpackets l = length (subs_to_come l.subpackets)

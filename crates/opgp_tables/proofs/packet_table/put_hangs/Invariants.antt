use Rattle.std.proofs.Common.{◌≡◌, ◌+◌, ◌≤◌, ℕ, List, length}
use Rattle.opgp_keyring.specs.Grouped.{hangs_left}
use Rattle.opgp_tables.specs.declared.packet_row.PacketRow.{PacketRow}
use Rattle.opgp_tables.specs.declared.table_sizes.TableSizes.{TableSizes}
use Rattle.opgp_tables.specs.Filling.{Fills}
use Rattle.opgp_tables.specs.Packets.{bodies, hangs_packets}
use Rattle.opgp_tables.proofs.packet_table.put_hangs.Given as goal

-- with those that are to come, all are put, and there is room for them
abbrev pub invariant-hangs : goal.invariant-hangs
invariant-hangs l = record {
  all : (there : TableSizes) (rows : List PacketRow) (bytes : List ℕ)
      → Fills (hangs_packets l.certificate l.component l.number l.reached.bytes (hangs_left l.hangs)) (bodies (hangs_left l.hangs)) l.reached there l.rows rows l.bytes bytes
      → Fills (hangs_packets l.certificate l.component 0 l.fn.here.bytes (hangs_left l.initial.hangs)) (bodies (hangs_left l.initial.hangs)) l.fn.here there l.fn.rows rows l.fn.bytes bytes;
  count : l.number + length (hangs_left l.hangs) ≡ length (hangs_left l.initial.hangs);
  rows_room : l.reached.rows + length (hangs_left l.hangs) ≤ length l.rows;
  bytes_room : l.reached.bytes + length (bodies (hangs_left l.hangs)) ≤ length l.bytes;
}

abbrev pub decreases-hangs : goal.decreases-hangs
decreases-hangs l = length (hangs_left l.hangs)

use Rattle.std.proofs.Common.{◌≡◌, ◌+◌, ◌≤◌, ℕ, List, length}
use Rattle.std.specs.List.{flat_map}
use Rattle.opgp_keyring.specs.Keyring.{certificate_packets}
use Rattle.opgp_tables.specs.declared.packet_row.PacketRow.{PacketRow}
use Rattle.opgp_tables.specs.declared.table_sizes.TableSizes.{TableSizes}
use Rattle.opgp_tables.specs.Filling.{Fills}
use Rattle.opgp_tables.specs.Packets.{bodies, certificates_rows}
use Rattle.opgp_tables.proofs.packet_table.put_certificates.Given as goal

-- with those that are to come, all are put, and there is room for them
abbrev pub invariant-certificates : goal.invariant-certificates
invariant-certificates l = record {
  all : (there : TableSizes) (rows : List PacketRow) (bytes : List ℕ)
      → Fills (certificates_rows l.number l.reached.bytes l.rest) (bodies (flat_map certificate_packets l.rest)) l.reached there l.rows rows l.bytes bytes
      → Fills (certificates_rows 0 l.fn.here.bytes l.fn.certificates) (bodies (flat_map certificate_packets l.fn.certificates)) l.fn.here there l.fn.rows rows l.fn.bytes bytes;
  count : l.number + length l.rest ≡ length l.fn.certificates;
  rows_room : l.reached.rows + length (flat_map certificate_packets l.rest) ≤ length l.rows;
  bytes_room : l.reached.bytes + length (bodies (flat_map certificate_packets l.rest)) ≤ length l.bytes;
}

abbrev pub decreases-certificates : goal.decreases-certificates
decreases-certificates l = length l.rest

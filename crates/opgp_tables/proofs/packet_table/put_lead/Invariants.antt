use Rattle.std.proofs.Common.{◌≡◌, ◌+◌, ◌≤◌, ℕ, List, length}
use Rattle.opgp_keyring.specs.Member.{members_left}
use Rattle.opgp_tables.specs.declared.packet_row.PacketRow.{PacketRow}
use Rattle.opgp_tables.specs.declared.table_sizes.TableSizes.{TableSizes}
use Rattle.opgp_tables.specs.Filling.{Fills}
use Rattle.opgp_tables.specs.Packets.{bodies, hangs_packets}
use Rattle.opgp_tables.specs.Room.{none}
use Rattle.opgp_tables.proofs.packet_table.put_lead.Given as goal

-- with those that are to come, all are put, and there is room for them
abbrev pub invariant-lead : goal.invariant-lead
invariant-lead l = record {
  all : (there : TableSizes) (rows : List PacketRow) (bytes : List ℕ)
      → Fills (hangs_packets none none l.number l.reached.bytes (members_left l.lead)) (bodies (members_left l.lead)) l.reached there l.rows rows l.bytes bytes
      → Fills (hangs_packets none none 0 0 (members_left l.initial.lead)) (bodies (members_left l.initial.lead)) (record { rows = 0; bytes = 0 }) there l.fn.rows rows l.fn.bytes bytes;
  count : l.number + length (members_left l.lead) ≡ length (members_left l.initial.lead);
  rows_room : l.reached.rows + length (members_left l.lead) ≤ length l.rows;
  bytes_room : l.reached.bytes + length (bodies (members_left l.lead)) ≤ length l.bytes;
}

abbrev pub decreases-lead : goal.decreases-lead
decreases-lead l = length (members_left l.lead)

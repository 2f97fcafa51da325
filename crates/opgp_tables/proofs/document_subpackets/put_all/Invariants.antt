use Rattle.std.proofs.Common.{◌≡◌, ◌+◌, ◌≤◌, ℕ, List, length}
use Rattle.std.specs.List.{flat_map}
use Rattle.opgp_keyring.specs.SignedLiteral.{signatures_left}
use Rattle.opgp_tables.specs.declared.subpacket_row.SubpacketRow.{SubpacketRow}
use Rattle.opgp_tables.specs.declared.table_sizes.TableSizes.{TableSizes}
use Rattle.opgp_tables.specs.DocumentJobs.{document_subpacket_bytes, document_subpackets_from, document_subs}
use Rattle.opgp_tables.specs.Filling.{Fills}
use Rattle.opgp_tables.proofs.document_subpackets.put_all.Given as goal

-- with those that are to come, all are put, and there is room for them
abbrev pub invariant-signatures : goal.invariant-signatures
invariant-signatures l = record {
  all : (there : TableSizes) (rows : List SubpacketRow) (bytes : List ℕ)
      → Fills (document_subpackets_from l.number l.reached.bytes (signatures_left l.signatures)) (document_subpacket_bytes (signatures_left l.signatures)) l.reached there l.rows rows l.bytes bytes
      → Fills (document_subpackets_from 0 0 (signatures_left l.initial.signatures)) (document_subpacket_bytes (signatures_left l.initial.signatures)) (record { rows = 0; bytes = 0 }) there l.fn.rows rows l.fn.bytes bytes;
  rows_room : l.reached.rows + length (flat_map document_subs (signatures_left l.signatures)) ≤ length l.rows;
  bytes_room : l.reached.bytes + length (document_subpacket_bytes (signatures_left l.signatures)) ≤ length l.bytes;
  count : l.number + length (signatures_left l.signatures) ≡ l.count;
}

abbrev pub decreases-signatures : goal.decreases-signatures
decreases-signatures l = length (signatures_left l.signatures)

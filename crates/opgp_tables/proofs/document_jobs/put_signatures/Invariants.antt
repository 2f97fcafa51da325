use Rattle.std.proofs.Common.{◌≡◌, ◌+◌, ◌≤◌, ℕ, List, length, drop}
use Rattle.opgp_report.specs.KeyIndex.{prints_shown}
use Rattle.opgp_keyring.specs.SignedLiteral.{signatures_left}
use Rattle.opgp_tables.specs.declared.job_row.JobRow.{JobRow}
use Rattle.opgp_tables.specs.declared.table_sizes.TableSizes.{TableSizes}
use Rattle.opgp_tables.specs.DocumentJobs.{document_job_bytes, document_jobs_from}
use Rattle.opgp_tables.specs.Filling.{Fills}
use Rattle.opgp_tables.proofs.document_jobs.put_signatures.Given as goal

-- with those that are to come, all are put, and there is room for them
abbrev pub invariant-signatures : goal.invariant-signatures
invariant-signatures l = record {
  all : (there : TableSizes) (rows : List JobRow) (bytes : List ℕ)
      → Fills (document_jobs_from l.is_message (prints_shown l.names) l.number l.reached.bytes (signatures_left l.signatures) (drop l.number l.answers)) (document_job_bytes (signatures_left l.signatures)) l.reached there l.rows rows l.bytes bytes
      → Fills (document_jobs_from l.is_message (prints_shown l.names) 0 0 (signatures_left l.initial.signatures) l.answers) (document_job_bytes (signatures_left l.initial.signatures)) (record { rows = 0; bytes = 0 }) there l.fn.rows rows l.fn.bytes bytes;
  rows_room : l.reached.rows + length (signatures_left l.signatures) ≤ length l.rows;
  bytes_room : l.reached.bytes + length (document_job_bytes (signatures_left l.signatures)) ≤ length l.bytes;
  count : l.number + length (signatures_left l.signatures) ≡ length l.answers;
}

abbrev pub decreases-signatures : goal.decreases-signatures
decreases-signatures l = length (signatures_left l.signatures)

use Rattle.std.proofs.Common.{◌≡◌, ◌+◌, ◌++◌, length}
use Rattle.std.specs.List.{flat_map}
use Rattle.opgp_tables.specs.Keys.{certificate_material, certificates_rows}
use Rattle.opgp_tables.proofs.key_table.add_certificates.Given as goal

-- the rows and octets so far, and those that are to come, are all
abbrev pub invariant-certificates : goal.invariant-certificates
invariant-certificates l = record {
  rows : l.rows.items ++ certificates_rows l.number (length l.bytes.items) l.rest
      ≡ l.fn.rows.items ++ certificates_rows 0 (length l.fn.bytes.items) l.fn.certificates;
  bytes : l.bytes.items ++ flat_map certificate_material l.rest
      ≡ l.fn.bytes.items ++ flat_map certificate_material l.fn.certificates;
  count : l.number + length l.rest ≡ length l.fn.certificates;
}

abbrev pub decreases-certificates : goal.decreases-certificates
decreases-certificates l = length l.rest

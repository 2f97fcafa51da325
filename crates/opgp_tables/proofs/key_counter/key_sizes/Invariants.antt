use Rattle.std.proofs.Common.{◌≡◌, ◌+◌, ◌≤◌, length}
use Rattle.std.specs.List.{flat_map}
use Rattle.opgp_report.specs.Report.{certificate_keys, keys_in}
use Rattle.opgp_tables.specs.Keys.{certificate_material, key_bytes}
use Rattle.opgp_tables.specs.Sizes.{capped}
use Rattle.opgp_tables.proofs.key_counter.key_sizes.Given as goal

-- the rows and octets so far, and those that are to come, are all
abbrev pub invariant-certificates : goal.invariant-certificates
invariant-certificates l = record {
  rows : capped (l.sizes.rows + length (flat_map certificate_keys l.rest)) ≡ capped (length (keys_in l.fn.keyring));
  bytes : capped (l.sizes.bytes + length (flat_map certificate_material l.rest)) ≡ capped (length (key_bytes l.fn.keyring));
  most_rows : l.sizes.rows ≤ 18446744073709551615;
  most_bytes : l.sizes.bytes ≤ 18446744073709551615;
}

abbrev pub decreases-certificates : goal.decreases-certificates
decreases-certificates l = length l.rest

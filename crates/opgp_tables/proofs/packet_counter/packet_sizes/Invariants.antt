use Rattle.std.proofs.Common.{◌≡◌, ◌+◌, ◌≤◌, length}
use Rattle.std.specs.List.{flat_map}
use Rattle.opgp_keyring.specs.Keyring.{certificate_packets, flat}
use Rattle.opgp_tables.specs.Packets.{bodies}
use Rattle.opgp_tables.specs.Sizes.{capped}
use Rattle.opgp_tables.proofs.packet_counter.packet_sizes.Given as goal

-- the rows and octets so far, and those that are to come, are all
abbrev pub invariant-certificates : goal.invariant-certificates
invariant-certificates l = record {
  rows : capped (l.sizes.rows + length (flat_map certificate_packets l.rest)) ≡ capped (length (flat l.fn.keyring));
  bytes : capped (l.sizes.bytes + length (bodies (flat_map certificate_packets l.rest))) ≡ capped (length (bodies (flat l.fn.keyring)));
  most_rows : l.sizes.rows ≤ 18446744073709551615;
  most_bytes : l.sizes.bytes ≤ 18446744073709551615;
}

abbrev pub decreases-certificates : goal.decreases-certificates
decreases-certificates l = length l.rest

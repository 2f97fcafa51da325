use Rattle.std.proofs.Common.{◌≡◌, ◌+◌, ◌≤◌, length}
use Rattle.std.specs.List.{flat_map}
use Rattle.opgp_keyring.specs.SignedLiteral.{signatures_left}
use Rattle.opgp_tables.specs.DocumentJobs.{document_subpacket_bytes, document_subs}
use Rattle.opgp_tables.specs.Sizes.{capped}
use Rattle.opgp_tables.proofs.document_subpackets.sizes_of.Given as goal

-- the rows and octets so far, and those that are to come, are all
abbrev pub invariant-signatures : goal.invariant-signatures
invariant-signatures l = record {
  rows : capped (l.counter.sizes.rows + length (flat_map document_subs (signatures_left l.signatures))) ≡ capped (length (flat_map document_subs (signatures_left l.initial.signatures)));
  bytes : capped (l.counter.sizes.bytes + length (document_subpacket_bytes (signatures_left l.signatures))) ≡ capped (length (document_subpacket_bytes (signatures_left l.initial.signatures)));
  most_rows : l.counter.sizes.rows ≤ 18446744073709551615;
  most_bytes : l.counter.sizes.bytes ≤ 18446744073709551615;
}

abbrev pub decreases-signatures : goal.decreases-signatures
decreases-signatures l = length (signatures_left l.signatures)

use Rattle.std.proofs.Common.{◌≡◌, ◌++◌, length}
use Rattle.opgp_blocks.specs.Blocks.{found_in, octets_of}
use Rattle.opgp_blocks.specs.View.{left_of}
use Rattle.opgp_handles.specs.FoundBlocks.{found_rows}
use Rattle.opgp_handles.proofs.finding.found_tables.Given as goal

-- the rows so far, and those of the blocks that are left
abbrev pub invariant-found : goal.invariant-found
invariant-found l = record {
  rows : l.rows.items ++ found_rows (length l.octets.items) (left_of l.blocks) ≡ found_rows 0 (found_in l.text);
  octets : l.octets.items ++ octets_of (left_of l.blocks) ≡ octets_of (found_in l.text);
}

abbrev pub decreases-found : goal.decreases-found
decreases-found l = length (left_of l.blocks)

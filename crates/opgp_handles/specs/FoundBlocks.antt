-- The table of the armored blocks in a text.
use Rattle.std.specs.Prelude.{ℕ, ◌+◌, List, [], ◌∷◌, length}
use Rattle.opgp_blocks.specs.Blocks.{FoundValue}
use Rattle.opgp_handles.specs.declared.finding.FoundRow.{FoundRow}

-- the row of a block whose cleaned text begins here
abbrev pub found_row : ℕ → FoundValue → FoundRow
found_row at f = record {
  at = f.at;
  size = f.size;
  octets_at = at;
  octets_size = length f.octets;
}

-- those of blocks whose cleaned texts stand one behind the other, from here on
abbrev pub found_rows : ℕ → List FoundValue → List FoundRow
found_rows at [] = []
found_rows at (f ∷ fs) = found_row at f ∷ found_rows (at + length f.octets) fs

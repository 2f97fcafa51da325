-- Blocks and headers, by the contents of their vectors.
use Rattle.std.specs.Prelude.{ℕ, List, map, Vec}
use Rattle.std.specs.declared.alloc.Global.{Global}
use Rattle.opgp_armor.specs.declared.block.Block.{Block as StoredBlock}
use Rattle.opgp_armor.specs.declared.dearmoring.Building.{Building}
use Rattle.opgp_armor.specs.Armored.{Block}
use Rattle.opgp_armor.specs.Events.{Built}

-- a header as it is stored: its key and its value
abbrev pub StoredHeader : Type 0
StoredHeader = Vec ℕ Global × Vec ℕ Global

abbrev pub header_of_stored : StoredHeader → List ℕ × List ℕ
header_of_stored h = (h.0.items, h.1.items)

abbrev pub headers_of : List StoredHeader → List (List ℕ × List ℕ)
headers_of hs = map header_of_stored hs

abbrev pub block_of : StoredBlock → Block
block_of b = record {
  label = b.label;
  headers = headers_of b.headers.items;
  octets = b.octets.items;
}

abbrev pub blocks_of_stored : List StoredBlock → List Block
blocks_of_stored bs = map block_of bs

-- what has been built so far
abbrev pub built_of : Building → Built
built_of b = record {
  blocks = blocks_of_stored b.blocks.items;
  label = b.label;
  headers = headers_of b.headers.items;
  octets = b.octets.items;
}

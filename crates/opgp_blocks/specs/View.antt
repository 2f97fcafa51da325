-- What the values of the code show.
use Rattle.std.specs.Prelude.{List}
use Rattle.opgp_blocks.specs.Blocks.{FoundValue, cleaned, found_among, lines_from}
use Rattle.opgp_blocks.specs.Line.{Shown, shown_from}
use Rattle.opgp_blocks.specs.declared.blocks.Blocks.{Blocks}
use Rattle.opgp_blocks.specs.declared.found.FoundBlock.{FoundBlock}
use Rattle.opgp_blocks.specs.declared.line.ShownLine.{ShownLine}

abbrev pub shown_value : ShownLine → Shown
shown_value l = record { at = l.at; content = l.content.now }

-- the lines of a block, the first of which begins there
abbrev pub lines_of : FoundBlock → List Shown
lines_of b = lines_from b.lines b.first b.text.now

abbrev pub found_value : FoundBlock → FoundValue
found_value b = record { at = b.at; size = b.size; octets = cleaned (lines_of b) }

-- the blocks that are still to come
abbrev pub left_of : Blocks → List FoundValue
left_of b = found_among (shown_from b.at b.text.now)

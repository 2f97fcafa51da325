-- Blocks of packets.
use Rattle.std.specs.Prelude.{List, ◌∷◌, map}
use Rattle.std.specs.List.{flat_map}
use Rattle.opgp_frame.specs.declared.packet.Placed.{Placed}
use Rattle.opgp_keyring.specs.declared.block_of.BlockOf.{BlockOf}
use Rattle.opgp_keyring.specs.Composition.{Item, of_label, of_packet}

-- its label, followed by its packets
abbrev pub block_items : BlockOf → List Item
block_items b = of_label b.block b.label_fits ∷ map of_packet b.packets.items

-- those of blocks, in order
abbrev pub items_of : List BlockOf → List Item
items_of blocks = flat_map block_items blocks

-- the packets of blocks, in order, in their places
abbrev pub placed_of : List BlockOf → List Placed
placed_of blocks = flat_map (λ b. b.packets.items) blocks

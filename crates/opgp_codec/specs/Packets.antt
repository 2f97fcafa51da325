-- The packets of an input, as they are.
use Rattle.std.specs.Prelude.{◌≡◌, ℕ, Bool, true, List, [], ◌∷◌, ◌++◌, All, map, Option, Ok, Err}
use Rattle.std.specs.Global.{Vec}
use Rattle.opgp_octets.specs.declared.limits.Limits.{Limits}
use Rattle.opgp_octets.specs.Limits.{malformed_of}
use Rattle.opgp_armor.specs.declared.label.Label.{Label}
use Rattle.opgp_frame.specs.declared.packet.Placed.{Placed}
use Rattle.opgp_keyring.specs.declared.block_of.BlockOf.{BlockOf}
use Rattle.opgp_keyring.specs.Bodies.{IsSound, IsFirstBodyFault}
use Rattle.opgp_keyring.specs.Composition.{Item, placed_in}
use Rattle.opgp_keyring.specs.Block.{items_of}
use Rattle.opgp_codec.specs.declared.answer.PacketsAnswer.{PacketsAnswer}
use Rattle.opgp_codec.specs.declared.answer.PacketsAnswer.TheVariants as answer
use Rattle.opgp_codec.specs.Labelled.{from_label}
use Rattle.opgp_codec.specs.Reading.{Outcome, block_items}

-- a block of packets, by the contents of its vectors
pub record BlockValue : Type 0 where
  pub number : ℕ
  pub fits : Bool
  pub packets : List Placed

abbrev pub block_value : BlockOf → BlockValue
block_value b = record { number = b.block; fits = b.label_fits; packets = b.packets.items }

abbrev pub block_values : Vec BlockOf → List BlockValue
block_values blocks = map block_value blocks.items

-- the labels and packets of blocks, in order
abbrev pub items_in : List BlockValue → List Item
items_in [] = []
items_in (b ∷ bs) = block_items b.number b.fits b.packets ++ items_in bs

-- the blocks have what comes from the first label on
abbrev pub AreIn : Vec BlockOf → List Item → Type 0
AreIn blocks items = items_of blocks.items ≡ from_label items

-- any label is accepted
abbrev pub any_label : Option Label → Bool
any_label label = true

-- The labels and packets are those of the blocks, and no body has a fault; or this is the fault of
-- the first body that has one.
abbrev pub ArePackets : Limits → List Item → Outcome (List BlockValue) → Type 0
ArePackets limits items (Ok blocks) =
    (items_in blocks ≡ items) × All (IsSound (malformed_of limits)) (placed_in items)
ArePackets limits items (Err fault) = IsFirstBodyFault (malformed_of limits) (placed_in items) fault

-- what an answer says
abbrev pub packets_told : PacketsAnswer → Outcome (Vec BlockOf)
packets_told (answer.Packets blocks) = Ok blocks
packets_told (answer.Refused fault) = Err fault

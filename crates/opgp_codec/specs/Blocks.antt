-- Which blocks a framer has been given, and which labels and packets it has found.
use Rattle.std.specs.Prelude.{◌≡◌, ℕ, ◌+◌, ◌≤◌, ◌%◌, ◌^◌, ◌⊎◌, ◌||◌, not, Bool, true, false, List, [], ◌∷◌, ◌++◌, length, map, take, Option, Some}
use Rattle.std.specs.Prelude.{None, is_some}
use Rattle.opgp_octets.specs.declared.fault.Fault.{Fault}
use Rattle.opgp_octets.specs.declared.limits.Limits.{Limits}
use Rattle.opgp_armor.specs.declared.label.Label.{Label}
use Rattle.opgp_frame.specs.declared.deframe.Deframe.{Deframe}
use Rattle.opgp_frame.specs.declared.packet.Placed.{Placed}
use Rattle.opgp_frame.specs.declared.view.PlacedView.{PlacedView}
use Rattle.opgp_frame.specs.Fed.{Fed, count_of}
use Rattle.opgp_frame.specs.Frames.{Frames, IsFramingFault, Longest}
use Rattle.opgp_frame.specs.View.{viewed}
use Rattle.opgp_keyring.specs.Composition.{Item, of_packet, placed_in}
use Rattle.opgp_codec.specs.declared.accepts.Accepts.{Accepts}
use Rattle.opgp_codec.specs.declared.found.Opening.{Opening}
use Rattle.opgp_codec.specs.declared.blocks.Blocks.{Blocks}
use Rattle.opgp_codec.specs.Accepts.{wanted_by}
use Rattle.opgp_codec.specs.Found.{IsFound, is_nothing, opened}
use Rattle.opgp_codec.specs.Reading.{TextBlock, Wanted, AreFramed, block_items}

-- the octets of the open block that its reader was given
abbrev pub open_count : Blocks → ℕ
open_count f = count_of f.deframe

-- how many blocks have ended
abbrev pub number_of : Blocks → ℕ
number_of f = f.number

-- the label of the open block was found
abbrev pub has_begun : Blocks → Bool
has_begun f = f.begun

-- how many packets were found, modulo 2^64
abbrev pub packet_count : Blocks → ℕ
packet_count f = f.packets

-- ---- what the last call has found
-- whether that is anything
abbrev pub finds : Blocks → Bool
finds f = not (is_nothing f.found) || is_some f.opening

-- these are the label and the packet, where the packet lies in these octets
abbrev pub Finds : Blocks → List ℕ → List Item → Type 0
Finds f octets items = (packets : List Placed) × IsFound f.found octets packets
    × (items ≡ opened f.opening ++ map of_packet packets)

-- so it is where something was found, else nothing was
abbrev pub FindsIf : Bool → Blocks → List ℕ → List Item → Type 0
FindsIf true f octets items = Finds f octets items
FindsIf false f octets items = items ≡ []

-- the same of a step that has taken these octets of a piece, or all of it and has found nothing
abbrev pub FindsIn : Option ℕ → Blocks → List ℕ → List Item → Type 0
FindsIn (Some n) f octets items = Finds f octets items
FindsIn None f octets items = items ≡ []

abbrev pub part_of : Option ℕ → List ℕ → List ℕ
part_of (Some n) piece = take n piece
part_of None piece = piece

-- the packet that is lent, where one is
abbrev pub viewed_in : Option PlacedView → List Placed
viewed_in None = []
viewed_in (Some v) = viewed v ∷ []

-- ---- all that was found
-- The label and packets of the open block: none before its label was found, and then no octet has
-- come.
abbrev pub AreOpen : Limits → Wanted → ℕ → Option Label
    → Deframe → Bool → List ℕ → List Item → Type 0
AreOpen limits wanted n label d false octets items =
    (octets ≡ []) × Fed limits n d [] [] × (items ≡ [])
AreOpen limits wanted n label d true octets items = (taken : List Placed)
    × Fed limits n d octets taken × (items ≡ block_items n (wanted label) taken)

-- A framer that has met no fault has found the labels and packets of the blocks that have ended,
-- and those of the open one.
pub record Reaches (accepts : Accepts) (limits : Limits) (f : Blocks) (done : List TextBlock)
    (octets : List ℕ) (items : List Item) : Type 0 where
  pub ended : List Item
  pub going : List Item
  pub framed : AreFramed limits (wanted_by accepts) 0 done ended
  pub last : AreOpen limits (wanted_by accepts) f.number f.label f.deframe f.begun octets going
  pub all : items ≡ ended ++ going

-- a block's label, and the longest list of packets that its octets begin with
abbrev pub AreLongest : Limits → Wanted → ℕ → TextBlock → List Item → Type 0
AreLongest limits wanted n b items = (packets : List Placed) × (rest : List ℕ)
    × Longest limits n b.octets packets rest × (items ≡ block_items n (wanted b.label) packets)

-- The first framing fault of these blocks. The items are the labels and packets of the blocks
-- before the one that has it, and of that one the longest list of packets that its octets begin
-- with.
abbrev pub StopsAt : Limits → Wanted → ℕ → List TextBlock → Fault → List Item → Type 0
StopsAt limits wanted n [] fault items = ⊥
StopsAt limits wanted n (b ∷ bs) fault items =
    (IsFramingFault limits n b.octets fault × AreLongest limits wanted n b items)
    ⊎ ((packets : List Placed) × (more : List Item) × Frames limits n b.octets packets
    × StopsAt limits wanted (n + 1) bs fault more
    × (items ≡ block_items n (wanted b.label) packets ++ more))

-- All labels and packets of the blocks so far were found; or one of them has the first fault, and
-- those before it were found.
abbrev pub StandsBy : Accepts → Limits → Blocks → Option Fault → List TextBlock → List ℕ → List Item
    → Type 0
StandsBy accepts limits f None done octets items = Reaches accepts limits f done octets items
StandsBy accepts limits f (Some fault) done octets items =
    StopsAt limits (wanted_by accepts) 0 done fault items

-- The framer was given these blocks to their ends, and of the open one, which has this label, these
-- octets; and it has found these labels and packets.
pub record Framed (accepts : Accepts) (limits : Limits) (f : Blocks) (done : List TextBlock)
    (label : Option Label) (octets : List ℕ) (items : List Item) : Type 0 where
  pub accepts_kept : f.accepts ≡ accepts
  pub limits_kept : f.limits ≡ limits
  pub label_kept : f.label ≡ label
  pub numbered : f.number ≡ length done
  pub counted : open_count f ≤ length octets
  pub found : packet_count f ≡ length (placed_in items) % 2 ^ 64
  pub stands : StandsBy accepts limits f f.fault done octets items

-- the open block has ended, and the framer has found its label then, or before
pub record Ends (old new : Blocks) (opening : Option Opening) : Type 0 where
  pub framed : (accepts : Accepts) (limits : Limits) (done : List TextBlock) (label : Option Label)
      (octets : List ℕ) (items : List Item) → Framed accepts limits old done label octets items
      → Framed accepts limits new (done ++ record { label = label; octets = octets } ∷ []) label []
      (items ++ opened opening)
  pub begun : has_begun new ≡ false

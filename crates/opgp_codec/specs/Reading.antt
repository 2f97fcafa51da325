-- What is read from an input: its blocks, their packets, and the one result.
use Rattle.std.specs.Prelude.{◌≡◌, ℕ, ◌+◌, ◌<◌, ◌≤◌, ◌⊎◌, nat_le, Bool, true, false, List, []}
use Rattle.std.specs.Prelude.{◌∷◌, ◌++◌, length, map, Option, Some, None, Result, Ok, Err}
use Rattle.std.specs.List.{flat_map}
use Rattle.opgp_octets.specs.declared.fault.Fault.{Fault}
use Rattle.opgp_octets.specs.declared.fault.Layer.TheVariants.{Input}
use Rattle.opgp_octets.specs.declared.fault.Reason.TheVariants.{InputTooLong}
use Rattle.opgp_octets.specs.declared.limits.Limits.{Limits}
use Rattle.opgp_octets.specs.Limits.{input_limit}
use Rattle.opgp_armor.specs.declared.label.Label.{Label}
use Rattle.opgp_armor.specs.Rules.{line_rule}
use Rattle.opgp_armor.specs.Armored.{Armored, Block, IsArmorFault}
use Rattle.opgp_frame.specs.declared.packet.Placed.{Placed}
use Rattle.opgp_frame.specs.Frames.{Frames, IsFramingFault}
use Rattle.opgp_keyring.specs.Composition.{Item, of_label, of_packet}
use Rattle.opgp_codec.specs.declared.mode.Mode.{Mode}
use Rattle.opgp_codec.specs.declared.mode.Mode.TheVariants.{Auto, Armor, Binary}

-- ---- the blocks of an input
-- a block's label, where the input is armored, and its octets
pub record TextBlock : Type 0 where
  pub label : Option Label
  pub octets : List ℕ

-- A first octet of 128 or more begins no text, and an input without octets is binary.
abbrev pub looks_binary : List ℕ → Bool
looks_binary [] = true
looks_binary (c ∷ input) = nat_le 128 c

abbrev pub is_binary : Mode → List ℕ → Bool
is_binary Auto input = looks_binary input
is_binary Armor input = false
is_binary Binary input = true

abbrev pub armored_block : Block → TextBlock
armored_block b = record { label = Some b.label; octets = b.octets }

-- A binary input is one block without a label; an armored one has those of its text.
abbrev pub Holds : Bool → Limits → List ℕ → List TextBlock → Type 0
Holds true limits input blocks = blocks ≡ record { label = None; octets = input } ∷ []
Holds false limits input blocks = (armored : List Block)
    × Armored (line_rule limits) input armored × (blocks ≡ map armored_block armored)

-- the octets of all blocks, in order
abbrev pub blocks_octets : List TextBlock → List ℕ
blocks_octets blocks = flat_map (λ b. b.octets) blocks

-- the input is to be armored text, and this is its fault
abbrev pub IsTextFault : Bool → Limits → List ℕ → Fault → Type 0
IsTextFault true limits input f = ⊥
IsTextFault false limits input f = IsArmorFault (line_rule limits) input f

-- ---- their packets
-- which labels are accepted; a binary block has none
abbrev pub Wanted : Type 0
Wanted = Option Label → Bool

-- a block's label, which is accepted or not, and then its packets
abbrev pub block_items : ℕ → Bool → List Placed → List Item
block_items n fits packets = of_label n fits ∷ map of_packet packets

-- Each block's octets are its packets, which give these items; the blocks are numbered from this
-- number on.
abbrev pub AreFramed : Limits → Wanted → ℕ → List TextBlock → List Item → Type 0
AreFramed limits wanted n [] items = items ≡ []
AreFramed limits wanted n (b ∷ bs) items =
    (packets : List Placed) × (more : List Item) × Frames limits n b.octets packets
    × AreFramed limits wanted (n + 1) bs more
    × (items ≡ block_items n (wanted b.label) packets ++ more)

-- the framing fault of the first block that has one
abbrev pub FirstFault : Limits → ℕ → List TextBlock → Fault → Type 0
FirstFault limits n [] f = ⊥
FirstFault limits n (b ∷ bs) f = IsFramingFault limits n b.octets f
    ⊎ ((packets : List Placed) × Frames limits n b.octets packets
    × FirstFault limits (n + 1) bs f)

-- ---- the answer
-- a value, or the fault that refuses the input
abbrev pub Outcome : Type 0 → Type 0
Outcome A = Result A Fault

-- the same of what the value shows
abbrev pub shown : {A B : Type 0} → (A → B) → Outcome A → Outcome B
shown show (Ok value) = Ok (show value)
shown show (Err fault) = Err fault

abbrev pub too_long : Limits → Fault
too_long limits = record {
  layer = Input;
  reason = InputTooLong;
  block = 0;
  pos = input_limit limits;
  inner = 0;
}

-- The result for an input, lowest layer first: it is too long; else the fault of its armor; else
-- the first framing fault of its blocks; else what the top makes of the labels and packets of all
-- blocks.
pub data AnswerOf {A : Type 0} (wanted : Wanted) (top : List Item → Outcome A → Type 0)
    (mode : Mode) (limits : Limits) (input : List ℕ) (answer : Outcome A) : Type 0 where
  at_length : input_limit limits < length input → answer ≡ Err (too_long limits)
      → AnswerOf wanted top mode limits input answer
  at_armor : length input ≤ input_limit limits → (f : Fault)
      → IsTextFault (is_binary mode input) limits input f → answer ≡ Err f
      → AnswerOf wanted top mode limits input answer
  at_framing : length input ≤ input_limit limits → (blocks : List TextBlock)
      → Holds (is_binary mode input) limits input blocks → (f : Fault)
      → FirstFault limits 0 blocks f → answer ≡ Err f
      → AnswerOf wanted top mode limits input answer
  at_top : length input ≤ input_limit limits → (blocks : List TextBlock)
      → Holds (is_binary mode input) limits input blocks → (items : List Item)
      → AreFramed limits wanted 0 blocks items → top items answer
      → AnswerOf wanted top mode limits input answer

-- a top has at most one result for labels and packets
abbrev pub IsOne : {A : Type 0} → (List Item → Outcome A → Type 0) → Type 0
IsOne {A} top = (items : List Item) (a b : Outcome A) → top items a → top items b → a ≡ b

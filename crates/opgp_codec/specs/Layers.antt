-- What armor and framing promise of their definitions.
use Rattle.std.specs.Prelude.{◌≡◌, ℕ, ◌≤◌, ◌⊎◌, List}
use Rattle.std.specs.List.{AllByRecursion}
use Rattle.opgp_octets.specs.Octets.{IsOctets}
use Rattle.opgp_octets.specs.declared.fault.Fault.{Fault}
use Rattle.opgp_octets.specs.declared.limits.Limits.{Limits}
use Rattle.opgp_armor.specs.Rules.{LineRule}
use Rattle.opgp_armor.specs.Armored.{Armored, Block, IsArmorFault}
use Rattle.opgp_frame.specs.declared.packet.Placed.{Placed}
use Rattle.opgp_frame.specs.Frames.{Frames, IsFramingFault}

-- octets have one list of blocks or of packets at most, or one fault
pub record LayersAreOne : Type 0 where
  pub armor_list : (rule : LineRule) (text : List ℕ) (a b : List Block) → Armored rule text a
      → Armored rule text b → a ≡ b
  pub armor_fault : (rule : LineRule) (text : List ℕ) (f g : Fault) → IsArmorFault rule text f
      → IsArmorFault rule text g → f ≡ g
  pub armor_no_fault : (rule : LineRule) (text : List ℕ) (blocks : List Block) (f : Fault)
      → IsOctets text → Armored rule text blocks → ¬ IsArmorFault rule text f
  pub frame_list : (limits : Limits) (block : ℕ) (octets : List ℕ) (packets others : List Placed)
      → Frames limits block octets packets → Frames limits block octets others → packets ≡ others
  pub frame_fault : (limits : Limits) (block : ℕ) (octets : List ℕ) (f g : Fault)
      → IsFramingFault limits block octets f → IsFramingFault limits block octets g → f ≡ g
  pub frame_no_fault : (limits : Limits) (block : ℕ) (octets : List ℕ) (packets : List Placed)
      (f : Fault) → Frames limits block octets packets → ¬ IsFramingFault limits block octets f

-- octets have some list, or some fault
pub record LayersAnswer : Type 0 where
  pub armor : (rule : LineRule) (text : List ℕ) → 128 ≤ rule.most → IsOctets text
      → ((blocks : List Block) × Armored rule text blocks)
      ⊎ ((f : Fault) × IsArmorFault rule text f)
  pub armor_octets : (rule : LineRule) (text : List ℕ) (blocks : List Block)
      → Armored rule text blocks → AllByRecursion (λ b. IsOctets b.octets) blocks
  pub frame : (limits : Limits) (block : ℕ) (octets : List ℕ) → IsOctets octets
      → ((packets : List Placed) × Frames limits block octets packets)
      ⊎ ((fault : Fault) × IsFramingFault limits block octets fault)

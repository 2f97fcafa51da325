-- What lies outside of armored blocks and is passed over.
use Rattle.std.specs.Prelude.{◌≡◌, ℕ, ◌+◌, ◌-◌, ◌^◌, ◌&&◌, Bool, true, false, not, if◌then◌else◌, List, length, min, Option, Some, None}
use Rattle.std.specs.List.{list_any}
use Rattle.opgp_armor.specs.declared.event.ArmorEvent.{ArmorEvent}
use Rattle.opgp_armor.specs.declared.event.ArmorEvent.TheVariants as armor
use Rattle.opgp_codec.specs.Foreign.{is_foreign}
use Rattle.opgp_codec.specs.declared.skipped.Skipped.{Skipped}

-- how many octets
abbrev pub count_of : Skipped → ℕ
count_of s = s.octets

-- none of them is a control character that is no white space
abbrev pub is_text : Skipped → Bool
is_text s = s.is_text

-- how many they are, if some of them are in no text; else 0
abbrev pub foreign_of : Skipped → ℕ
foreign_of s = if s.is_text then 0 else s.octets

-- a block is open
abbrev pub is_in_block : Skipped → Bool
is_in_block s = s.in_block

abbrev pub begins_block : Option ArmorEvent → Bool
begins_block (Some (armor.Begin label)) = true
begins_block (Some _) = false
begins_block None = false

-- these octets lie outside, too
pub record Passes (old new : Skipped) (part : List ℕ) : Type 0 where
  pub count : count_of new ≡ min (count_of old + length part) (2 ^ 64 - 1)
  pub text : is_text new ≡ (is_text old && not (list_any is_foreign part))

-- The names of keys as text.
use Rattle.std.specs.Prelude.{◌≡◌, ℕ, ◌||◌, ◌==◌, true, false, List, codes, drop, filter, length, nat_eq}
use Rattle.std.specs.Prelude.{if◌then◌else◌, Ok}
use Rattle.std.specs.List.{starts_with}
use Rattle.hex.specs.Hex.{decode_of}
use Rattle.opgp_stack.specs.declared.key_name.KeyName.{KeyName}
use Rattle.opgp_stack.specs.declared.key_name.KeyName.TheVariants.{Id, Four, Six}
use Rattle.opgp_stack.specs.KeyName.{name_octets}

-- how many octets it has: those of a key ID, or of a fingerprint of version 4 or 6 (RFC 9580,
-- 5.5.4)
abbrev pub name_size : KeyName → ℕ
name_size (Id octets) = 8
name_size (Four octets) = 20
name_size (Six octets) = 32

-- the digits in a text: what isn't a blank, without `0x` in front
abbrev pub without_blanks : List ℕ → List ℕ
without_blanks text = filter (λ c. if c == 32 then false else true) text

abbrev pub behind_prefix : List ℕ → List ℕ
behind_prefix digits =
    if starts_with nat_eq digits (codes "0x") || starts_with nat_eq digits (codes "0X")
    then drop 2 digits else digits

abbrev pub digits_of : List ℕ → List ℕ
digits_of text = behind_prefix (without_blanks text)

-- The digits are the octets of the key's name in hexadecimal, in either case.
pub record AreDigits (digits : List ℕ) (key : KeyName) : Type 0 where
  pub octets : decode_of digits ≡ Ok (name_octets key)
  pub sized : length (name_octets key) ≡ name_size key

-- the text says this name
abbrev pub IsKeyText : List ℕ → KeyName → Type 0
IsKeyText text key = AreDigits (digits_of text) key

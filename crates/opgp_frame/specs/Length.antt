-- One length header (RFC 9580, 4.2), as a table from forms to octets.
use Rattle.std.specs.Prelude.{◌≡◌, ℕ, ◌^◌, ◌<◌, ◌≤◌, ◌%◌, Bool, true, false, ◌==◌, List, [], ◌∷◌}
use Rattle.std.specs.Prelude.{length, take, Option, Some, None, option_map, if◌then◌else◌}
use Rattle.std.specs.Int.{w16, w32, to_be_bytes}
use Rattle.opgp_octets.specs.declared.packet_len.PacketLen.TheVariants as new
use Rattle.opgp_octets.specs.PacketLen.{PacketLenFits, packet_len_octets, packet_len_amount}
use Rattle.opgp_octets.specs.PacketLen.{packet_len_at}
use Rattle.opgp_octets.specs.Reading.{number_at}
use Rattle.opgp_frame.specs.declared.length.Length.{Length}
use Rattle.opgp_frame.specs.declared.length.Length.TheVariants.{OldOne, OldTwo, OldFour, New}
use Rattle.opgp_frame.specs.Header.{is_current}

-- the values that each form can hold
abbrev pub LengthFits : Length → Type 0
LengthFits (OldOne n) = n < 2 ^ 8
LengthFits (OldTwo n) = n < 2 ^ 16
LengthFits (OldFour n) = n < 2 ^ 32
LengthFits (New len) = PacketLenFits len

-- the encoding
abbrev pub length_octets : Length → List ℕ
length_octets (OldOne n) = n ∷ []
length_octets (OldTwo n) = to_be_bytes w16 n
length_octets (OldFour n) = to_be_bytes w32 n
length_octets (New len) = packet_len_octets len

-- how many octets of the body it announces
abbrev pub length_amount : Length → ℕ
length_amount (OldOne n) = n
length_amount (OldTwo n) = n
length_amount (OldFour n) = n
length_amount (New len) = packet_len_amount len

-- a piece follows, and another length header after it
abbrev pub is_partial : Length → Bool
is_partial (New (new.Partial power)) = true
is_partial (New (new.One n)) = false
is_partial (New (new.Two n)) = false
is_partial (New (new.Five n)) = false
is_partial (OldOne n) = false
is_partial (OldTwo n) = false
is_partial (OldFour n) = false

-- A packet that begins with this octet may have such a length header: in the legacy format bits 1
-- and 0 of the octet say which, in the current format the length header itself does.
abbrev pub IsLengthUnder : ℕ → Length → Type 0
IsLengthUnder header (OldOne n) = (header < 192) × (header % 4 ≡ 0)
IsLengthUnder header (OldTwo n) = (header < 192) × (header % 4 ≡ 1)
IsLengthUnder header (OldFour n) = (header < 192) × (header % 4 ≡ 2)
IsLengthUnder header (New len) = 192 ≤ header

-- The octets after a packet's first octet begin with the encoding of the length, which takes this
-- many of them.
pub record LengthBegins (header : ℕ) (o : List ℕ) (length' : Length) (count : ℕ) : Type 0 where
  pub fits : LengthFits length'
  pub under : IsLengthUnder header length'
  pub size : count ≡ length (length_octets length')
  pub within : count ≤ length o
  pub spelled : take count o ≡ length_octets length'

-- the length header that begins the octets under this first octet of a packet, and how many octets
-- it takes
abbrev pub legacy_one_at : List ℕ → Option (Length × ℕ)
legacy_one_at [] = None
legacy_one_at (n ∷ rest) = Some (OldOne n, 1)

abbrev pub legacy_at : ℕ → List ℕ → Option (Length × ℕ)
legacy_at bits o = if bits == 0 then legacy_one_at o else
    (if bits == 1 then option_map (λ x. (OldTwo x.0, 2)) (number_at w16 o) else
    (if bits == 2 then option_map (λ x. (OldFour x.0, 4)) (number_at w32 o) else None))

abbrev pub current_at : List ℕ → Option (Length × ℕ)
current_at o = option_map (λ x. (New x.0, x.1)) (packet_len_at o)

unfoldable pub length_at : ℕ → List ℕ → Option (Length × ℕ)
length_at header o = if is_current header then current_at o else legacy_at (header % 4) o

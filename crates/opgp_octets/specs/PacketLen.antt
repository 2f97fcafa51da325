-- The length of a packet's body in the current format (RFC 9580, 4.2.1), as a table from forms to
-- octets.
use Rattle.std.specs.Prelude.{◌≡◌, ℕ, ◌+◌, ◌*◌, ◌-◌, ◌/◌, ◌%◌, ◌^◌, ◌<◌, ◌≤◌, List, [], ◌∷◌, length}
use Rattle.std.specs.Prelude.{take, Option, Some, None, option_map, nat_lt, if◌then◌else◌}
use Rattle.std.specs.Int.{w32, to_be_bytes}
use Rattle.opgp_octets.specs.declared.packet_len.PacketLen.{PacketLen}
use Rattle.opgp_octets.specs.declared.packet_len.PacketLen.TheVariants as len
use Rattle.opgp_octets.specs.Reading.{number_at}

-- the values that each form can hold
abbrev pub PacketLenFits : PacketLen → Type 0
PacketLenFits (len.One n) = n ≤ 191
PacketLenFits (len.Two n) = (192 ≤ n) × (n ≤ 8383)
PacketLenFits (len.Five n) = n < 2 ^ 32
PacketLenFits (len.Partial power) = power ≤ 30

-- the encoding
abbrev pub packet_len_octets : PacketLen → List ℕ
packet_len_octets (len.One n) = n ∷ []
packet_len_octets (len.Two n) = ((n - 192) / 256 + 192) ∷ (n - 192) % 256 ∷ []
packet_len_octets (len.Five n) = 255 ∷ to_be_bytes w32 n
packet_len_octets (len.Partial power) = (224 + power) ∷ []

-- how many octets of the body it announces
abbrev pub packet_len_amount : PacketLen → ℕ
packet_len_amount (len.One n) = n
packet_len_amount (len.Two n) = n
packet_len_amount (len.Five n) = n
packet_len_amount (len.Partial power) = 2 ^ power

-- a piece follows, and another length after it
abbrev pub IsPartial : PacketLen → Type 0
IsPartial (len.Partial power) = Unit {0}
IsPartial other = ⊥

-- the octets begin with the encoding of the length, which takes this many of them
pub record PacketLenBegins (o : List ℕ) (len : PacketLen) (count : ℕ) : Type 0 where
  pub fits : PacketLenFits len
  pub size : count ≡ length (packet_len_octets len)
  pub within : count ≤ length o
  pub spelled : take count o ≡ packet_len_octets len

-- the length that begins a list, and how many octets it takes
abbrev pub packet_five_at : List ℕ → Option (PacketLen × ℕ)
packet_five_at o = option_map (λ x. (len.Five x.0, 5)) (number_at w32 o)

abbrev pub packet_two_at : ℕ → List ℕ → Option (PacketLen × ℕ)
packet_two_at a [] = None
packet_two_at a (b ∷ rest) = Some (len.Two ((a - 192) * 256 + b + 192), 2)

unfoldable pub packet_len_at : List ℕ → Option (PacketLen × ℕ)
packet_len_at [] = None
packet_len_at (a ∷ rest) =
    if nat_lt a 192 then Some (len.One a, 1) else
    (if nat_lt a 224 then packet_two_at a rest else
    (if nat_lt a 255 then Some (len.Partial (a - 224), 1) else packet_five_at rest))

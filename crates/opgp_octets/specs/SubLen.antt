-- The length of a subpacket (RFC 9580, 5.2.3.7), as a table from forms to octets. First octets 224
-- to 254 begin a length of two octets here, but are partial lengths in a packet's header.
use Rattle.std.specs.Prelude.{◌≡◌, ℕ, ◌+◌, ◌*◌, ◌-◌, ◌/◌, ◌%◌, ◌^◌, ◌<◌, ◌≤◌, List, [], ◌∷◌, length}
use Rattle.std.specs.Prelude.{take, Option, Some, None, option_map, nat_lt, if◌then◌else◌}
use Rattle.std.specs.Int.{w32, to_be_bytes}
use Rattle.std.proofs.Props.{props}
use Rattle.opgp_octets.specs.declared.sub_len.SubLen.{SubLen}
use Rattle.opgp_octets.specs.declared.sub_len.SubLen.TheVariants as len
use Rattle.opgp_octets.specs.Reading.{number_at}

-- the values that each form can hold
abbrev pub SubLenFits : SubLen → Type 0
SubLenFits (len.One n) = n ≤ 191
SubLenFits (len.Two n) = (192 ≤ n) × (n ≤ 16319)
SubLenFits (len.Five n) = n < 2 ^ 32

-- there is one proof of it at most
pub SubLenFits-prop : (len : SubLen) → IsProp (SubLenFits len)
SubLenFits-prop (len.One n) = hlevel props
SubLenFits-prop other = hlevel props

-- the encoding
abbrev pub sub_len_octets : SubLen → List ℕ
sub_len_octets (len.One n) = n ∷ []
sub_len_octets (len.Two n) = ((n - 192) / 256 + 192) ∷ (n - 192) % 256 ∷ []
sub_len_octets (len.Five n) = 255 ∷ to_be_bytes w32 n

-- how many octets of the subpacket it announces, its type octet counted
abbrev pub sub_len_amount : SubLen → ℕ
sub_len_amount (len.One n) = n
sub_len_amount (len.Two n) = n
sub_len_amount (len.Five n) = n

-- the octets begin with the encoding of the length, which takes this many of them
pub record SubLenBegins (o : List ℕ) (len : SubLen) (count : ℕ) : Type 0 where
  pub fits : SubLenFits len
  pub size : count ≡ length (sub_len_octets len)
  pub within : count ≤ length o
  pub spelled : take count o ≡ sub_len_octets len

-- the length that begins a list, and how many octets it takes
abbrev pub sub_five_at : List ℕ → Option (SubLen × ℕ)
sub_five_at o = option_map (λ x. (len.Five x.0, 5)) (number_at w32 o)

abbrev pub sub_two_at : ℕ → List ℕ → Option (SubLen × ℕ)
sub_two_at a [] = None
sub_two_at a (b ∷ rest) = Some (len.Two ((a - 192) * 256 + b + 192), 2)

unfoldable pub sub_len_at : List ℕ → Option (SubLen × ℕ)
sub_len_at [] = None
sub_len_at (a ∷ rest) =
    if nat_lt a 192 then Some (len.One a, 1) else
    (if nat_lt a 255 then sub_two_at a rest else sub_five_at rest)

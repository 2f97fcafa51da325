-- The fields of what algorithms made, as octets without their lengths (RFC 9580, 5.2.3, 5.5.5).
use Rattle.std.specs.Prelude.{ℕ, zero, suc, ◌+◌, List, [], ◌∷◌, map, take, drop}
use Rattle.std.specs.Int.{w32, to_be_bytes}
use Rattle.opgp_packet.specs.Fields.{Field, small, wide, integer, named, bare, subpackets}
use Rattle.opgp_packet.specs.Fields.{amount}
use Rattle.opgp_packet.specs.Subpackets.{subs_octets}

-- the number that the field at this position is, from 0
abbrev pub number_at : List Field → ℕ → ℕ
number_at [] n = 0
number_at (f ∷ fields) zero = amount f
number_at (f ∷ fields) (suc n) = number_at fields n

-- the octets of a field's value: of an integer those after its count of bits, of sized octets those
-- after their size
abbrev pub value_of : Field → List ℕ
value_of (small n) = n ∷ []
value_of (wide n) = to_be_bytes w32 n
value_of (integer m) = m.octets
value_of (named o) = o
value_of (bare o) = o
value_of (subpackets extent subs) = subs_octets subs

abbrev pub values_of : List Field → List (List ℕ)
values_of fields = map value_of fields

-- the first four, with empty ones after them
abbrev pub four : List (List ℕ) → List (List ℕ)
four [] = [] ∷ [] ∷ [] ∷ [] ∷ []
four (a ∷ []) = a ∷ [] ∷ [] ∷ [] ∷ []
four (a ∷ b ∷ []) = a ∷ b ∷ [] ∷ [] ∷ []
four (a ∷ b ∷ c ∷ []) = a ∷ b ∷ c ∷ [] ∷ []
four (a ∷ b ∷ c ∷ d ∷ more) = a ∷ b ∷ c ∷ d ∷ []

-- the first two
abbrev pub two : List (List ℕ) → List (List ℕ)
two [] = [] ∷ [] ∷ []
two (a ∷ []) = a ∷ [] ∷ []
two (a ∷ b ∷ more) = a ∷ b ∷ []

-- octets of these sizes, one after the other from this place on
abbrev pub cuts : List ℕ → ℕ → List ℕ → List (List ℕ)
cuts bytes at [] = []
cuts bytes at (n ∷ ns) = take n (drop at bytes) ∷ cuts bytes (at + n) ns

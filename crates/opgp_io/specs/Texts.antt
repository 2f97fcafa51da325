-- Octets as a text in a line.
use Rattle.std.specs.Prelude.{ℕ, ◌==◌, nat_le, Bool, if◌then◌else◌, ◌&&◌, not, List, [], ◌∷◌}
use Rattle.std.specs.Prelude.{◌++◌, codes}
use Rattle.std.specs.List.{flat_map}
use Rattle.hex.specs.Hex.{encode_upper}

-- printable ASCII other than `"` and `\`
abbrev pub is_plain : ℕ → Bool
is_plain c = nat_le 32 c && nat_le c 126 && not (c == 34) && not (c == 92)

-- a plain octet as it is, and any other as `\x` and two upper-case digits
abbrev pub escape : ℕ → List ℕ
escape c = if is_plain c then c ∷ [] else codes "\\x" ++ encode_upper (c ∷ [])

-- each octet so, one after the other
unfoldable pub escaped : List ℕ → List ℕ
escaped octets = flat_map escape octets

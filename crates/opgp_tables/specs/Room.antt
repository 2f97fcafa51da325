-- Octets in a room of fixed size.
use Rattle.std.specs.Prelude.{ℕ, List, ◌++◌, drop, length, replicate}

-- the octets, and zeros after them
abbrev pub padded : ℕ → List ℕ → List ℕ
padded n octets = octets ++ drop (length octets) (replicate n 0)

-- the number that says that there is none
abbrev pub none : ℕ
none = 18446744073709551615

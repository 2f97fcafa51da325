-- Lists of octets.
use Rattle.std.specs.Prelude.{ℕ, ◌<◌, ◌≤◌, List, length, slice_index}

-- each is below 256
abbrev pub IsOctets : List ℕ → Type 0
IsOctets o = (i : ℕ) → slice_index o i < 256

-- as many as a packet's body may have: its length is written in four octets at most (RFC 9580,
-- 4.2.1)
abbrev pub IsBodySized : List ℕ → Type 0
IsBodySized o = length o ≤ 4294967295

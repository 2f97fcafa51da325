-- The limits: the range and the default of each.
use Rattle.std.specs.Prelude.{ℕ, ◌≤◌}
use Rattle.opgp_octets.specs.declared.limits.Range.{Range}

abbrev pub line_range : Range
line_range = record { least = 128; most = 1048576; usual = 8192 }

abbrev pub body_range : Range
body_range = record { least = 512; most = 4294967295; usual = 16777216 }

abbrev pub cert_range : Range
cert_range = record { least = 512; most = 1099511627776; usual = 67108864 }

abbrev pub input_range : Range
input_range = record { least = 0; most = 4611686018427387904; usual = 1099511627776 }

abbrev pub pieces_range : Range
pieces_range = record { least = 1; most = 16777216; usual = 1048576 }

-- a limit is in its range
abbrev pub IsIn : Range → ℕ → Type 0
IsIn range n = (range.least ≤ n) × (n ≤ range.most)

pub record AreAllowed (line body cert input pieces : ℕ) : Type 0 where
  pub line_in : IsIn line_range line
  pub body_in : IsIn body_range body
  pub cert_in : IsIn cert_range cert
  pub input_in : IsIn input_range input
  pub pieces_in : IsIn pieces_range pieces

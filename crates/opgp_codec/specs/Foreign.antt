-- Octets that no text has.
use Rattle.std.specs.Prelude.{ℕ, Bool, ◌||◌, ◌&&◌, ◌==◌, nat_lt}

-- a control character that is no white space
abbrev pub is_foreign : ℕ → Bool
is_foreign octet = nat_lt octet 9 || (nat_lt 13 octet && nat_lt octet 32) || octet == 127

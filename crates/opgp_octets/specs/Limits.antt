-- The values of limits.
use Rattle.std.specs.Prelude.{ℕ}
use Rattle.opgp_octets.specs.declared.limits.Limits.{Limits}
use Rattle.opgp_octets.specs.declared.malformed.Malformed.{Malformed}
use Rattle.opgp_octets.specs.declared.outside.Outside.{Outside}

-- the most octets of an armored line
abbrev pub line_limit : Limits → ℕ
line_limit l = l.line

-- the most octets of a packet's body
abbrev pub body_limit : Limits → ℕ
body_limit l = l.body

-- the most octets of a certificate's packets, headers included
abbrev pub cert_limit : Limits → ℕ
cert_limit l = l.cert

-- the most octets of the input
abbrev pub input_limit : Limits → ℕ
input_limit l = l.input

-- the most partial lengths of a packet
abbrev pub pieces_limit : Limits → ℕ
pieces_limit l = l.pieces

-- what becomes of lines outside of armored blocks
abbrev pub outside_of : Limits → Outside
outside_of l = l.outside

-- what becomes of malformed signatures
abbrev pub malformed_of : Limits → Malformed
malformed_of l = l.malformed

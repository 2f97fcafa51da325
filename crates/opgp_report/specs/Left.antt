-- The left 16 bits of the signed hash value, as a signature states them (RFC 9580, 5.2.3).
use Rattle.std.specs.Prelude.{ℕ, zero, suc, List, [], ◌∷◌, Option, Some, None, take}
use Rattle.std.specs.Prelude.{if◌then◌else◌}
use Rattle.std.specs.Str.{bytes_eq}
use Rattle.opgp_packet.specs.Fields.{Field, small, wide, integer, named, bare, subpackets}
use Rattle.opgp_packet.specs.SignatureBody.{SignatureValue, of_three, of_four, of_six, of_other}
use Rattle.opgp_hash.specs.Digest.{digest_octets}
use Rattle.opgp_report.specs.declared.verifier.Verdict.{Verdict}
use Rattle.opgp_report.specs.declared.verifier.Verdict.TheVariants.{Bad, Undecided}
use Rattle.opgp_report.specs.RowValue.{JobValue}

abbrev pub octets_of : Field → List ℕ
octets_of (bare o) = o
octets_of (small n) = []
octets_of (wide n) = []
octets_of (integer m) = []
octets_of (named o) = []
octets_of (subpackets extent subs) = []

-- the octets of the field at this position, from 0
abbrev pub octets_at : List Field → ℕ → List ℕ
octets_at [] n = []
octets_at (f ∷ fields) zero = octets_of f
octets_at (f ∷ fields) (suc n) = octets_at fields n

-- after the areas in versions 4 and 6, after the algorithms in version 3
abbrev pub left_in : SignatureValue → Option (List ℕ)
left_in (of_three fields) = Some (octets_at fields 7)
left_in (of_four fields) = Some (octets_at fields 6)
left_in (of_six fields) = Some (octets_at fields 6)
left_in (of_other octets) = None

abbrev pub left_verdict : Option (List ℕ) → List ℕ → Verdict
left_verdict None digest = Undecided
left_verdict (Some left) digest = if bytes_eq (take 2 digest) left then Undecided else Bad

-- bad if the digest doesn't begin with the octets that the signature states, else undecided
abbrev pub says_left : JobValue → Verdict
says_left job = left_verdict (left_in job.signature) (digest_octets job.digest)

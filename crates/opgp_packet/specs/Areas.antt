-- The areas of subpackets of a signature (RFC 9580, 5.2.3).
use Rattle.std.specs.Prelude.{ℕ, zero, suc, List, [], ◌∷◌}
use Rattle.opgp_packet.specs.Fields.{Field, subpackets}
use Rattle.opgp_packet.specs.Subpackets.{Sub}
use Rattle.opgp_packet.specs.SignatureBody.{SignatureValue, of_three, of_four, of_six, of_other}

-- the subpackets of a field that is an area
abbrev pub subs_of : Field → List Sub
subs_of (subpackets extent subs) = subs
subs_of other = []

-- those of the field at this position, from 0
abbrev pub subs_at : List Field → ℕ → List Sub
subs_at [] n = []
subs_at (f ∷ fields) zero = subs_of f
subs_at (f ∷ fields) (suc n) = subs_at fields n

-- In versions 4 and 6 the fields are version, type, algorithm, hash, hashed area, unhashed area,
-- ..; no other version has areas.
abbrev pub hashed_subs : SignatureValue → List Sub
hashed_subs (of_three fields) = []
hashed_subs (of_four fields) = subs_at fields 4
hashed_subs (of_six fields) = subs_at fields 4
hashed_subs (of_other octets) = []

abbrev pub unhashed_subs : SignatureValue → List Sub
unhashed_subs (of_three fields) = []
unhashed_subs (of_four fields) = subs_at fields 5
unhashed_subs (of_six fields) = subs_at fields 5
unhashed_subs (of_other octets) = []

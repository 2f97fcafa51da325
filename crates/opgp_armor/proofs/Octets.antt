-- Octets, by place and by recursion.
use Rattle.std.proofs.Common.{ℕ, zero, suc, ◌<◌, List, [], ◌∷◌, arith}
use Rattle.opgp_octets.specs.Octets.{IsOctets}

-- each is an octet
abbrev pub AreOctets : List ℕ → Type 0
AreOctets [] = Unit {0}
AreOctets (c ∷ cs) = (c < 256) × AreOctets cs

pub each_octet : (o : List ℕ) → AreOctets o → IsOctets o
each_octet [] h i = omega arith
each_octet (x ∷ o) h zero = h.0
each_octet (x ∷ o) h (suc i) = each_octet o h.1 i

pub all_octets : (o : List ℕ) → IsOctets o → AreOctets o
all_octets [] h = tt
all_octets (x ∷ o) h = (h 0, all_octets o (λ i. h (suc i)))

-- A packet takes at least an octet for its type and one for its length beside its body.
use Rattle.std.proofs.Common.{◌≡◌, ◌+◌, ◌*◌, ◌≤◌, List, [], ◌∷◌, length, arith, length-append}
use Rattle.std.proofs.lemmas.List.Sums.{sum_by-cons}
use Rattle.std.specs.List.{sum_by}
use Rattle.opgp_octets.specs.declared.packet_len.PacketLen.TheVariants as new
use Rattle.opgp_frame.specs.declared.length.Length.{Length}
use Rattle.opgp_frame.specs.declared.length.Length.TheVariants.{OldOne, OldTwo, OldFour, New}
use Rattle.opgp_frame.specs.Form.{exponents_of, last_length}
use Rattle.opgp_frame.specs.Length.{length_octets}
use Rattle.opgp_frame.specs.Packet.{PacketValue, spelling, packets_octets}
use Rattle.opgp_frame.proofs.Cuts.{cut_body_size}

length_some : (l : Length) → 1 ≤ length (length_octets l)
length_some (OldOne n) = omega arith
length_some (OldTwo n) = omega arith
length_some (OldFour n) = omega arith
length_some (New (new.One n)) = omega arith
length_some (New (new.Two n)) = omega arith
length_some (New (new.Five n)) = omega arith
length_some (New (new.Partial n)) = omega arith

packet_least : (p : PacketValue) → 2 + length p.body ≤ length (spelling p)
packet_least p =
    let last = last_length p.form (length p.body) in
    omega (arith, cut_body_size (exponents_of p.form) (length_octets last) p.body, length_some last)

pub packets_least : (ps : List PacketValue) → 2 * length ps + sum_by (λ p. length p.body) ps ≤ length (packets_octets ps)
packets_least [] = omega arith
packets_least (p ∷ ps) =
    let sum = sum_by-cons (λ (q : PacketValue). length q.body) p ps in
    let whole : length (packets_octets (p ∷ ps)) ≡ length (spelling p) + length (packets_octets ps) = length-append (spelling p) (packets_octets ps) in
    omega (arith, sum, whole, packet_least p, packets_least ps)

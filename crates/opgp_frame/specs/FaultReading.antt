-- The fault of a packet as a reading of its octets (RFC 9580, 4.2), for the law that it is
-- `PacketFault`'s.
use Rattle.std.specs.Prelude.{ℕ, zero, suc, ◌+◌, nat_lt, List, [], ◌∷◌, length, drop, Option, Some}
use Rattle.std.specs.Prelude.{None, if◌then◌else◌}
use Rattle.opgp_octets.specs.declared.limits.Limits.{Limits}
use Rattle.opgp_octets.specs.declared.fault.Reason.{Reason}
use Rattle.opgp_octets.specs.declared.fault.Reason.TheVariants.{Truncated}
use Rattle.opgp_frame.specs.declared.length.Length.{Length}
use Rattle.opgp_frame.specs.Header.{kind_in}
use Rattle.opgp_frame.specs.Length.{length_at, length_amount, is_partial}
use Rattle.opgp_frame.specs.PacketFault.{header_fault, length_fault}

abbrev pub with_length : Option (Length × ℕ) → ℕ → (Length → ℕ → Option (Reason × ℕ))
    → Option (Reason × ℕ)
with_length None at next = Some (Truncated, at)
with_length (Some (l, count)) at next = next l count

abbrev pub or_fault : Option Reason → ℕ → Option (Reason × ℕ) → Option (Reason × ℕ)
or_fault None at next = next
or_fault (Some reason) at next = Some (reason, at)

-- The fault of the length headers of a packet, in order, and where the header at fault begins: its
-- octets are incomplete, it isn't allowed there, or its piece is incomplete. Before it, counted
-- from an offset in the packet, came the given number of partial ones, whose pieces have the given
-- number of octets. At most the first number of headers is looked at.
unfoldable pub lengths_fault : ℕ → Limits → ℕ → ℕ → ℕ → ℕ → List ℕ → Option (Reason × ℕ)
lengths_fault zero limits header before sum at o = None
lengths_fault (suc n) limits header before sum at o =
    with_length (length_at header o) at (λ l count.
    or_fault (length_fault limits (kind_in header) before sum l) at
    (if nat_lt (length o) (count + length_amount l) then Some (Truncated, at) else
    (if is_partial l
    then lengths_fault n limits header (before + 1) (sum + length_amount l)
    (at + (count + length_amount l)) (drop (count + length_amount l) o)
    else None)))

-- The fault of the packet that begins the octets, and where in it; None if there are no octets, or
-- if a packet is allowed. A length header takes at least one octet, so no more of them than octets
-- need be looked at.
unfoldable pub packet_fault : Limits → List ℕ → Option (Reason × ℕ)
packet_fault limits [] = None
packet_fault limits (header ∷ o) =
    or_fault (header_fault header) 0 (lengths_fault (suc (length o)) limits header 0 0 1 o)

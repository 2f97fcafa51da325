-- Detached signatures (RFC 9580, 10.4): signatures alone, at least one.
use Rattle.std.specs.Prelude.{◌≡◌, ℕ, ◌<◌, ◌⊎◌, Bool, true, false, ◌||◌, List, [], ◌∷◌}
use Rattle.std.specs.Prelude.{◌++◌, All, length}
use Rattle.opgp_octets.specs.declared.packet_type.PacketType.TheVariants as packet
use Rattle.opgp_octets.specs.declared.fault.Fault.{Fault}
use Rattle.opgp_octets.specs.declared.malformed.Malformed.{Malformed}
use Rattle.opgp_octets.specs.declared.fault.Reason.TheVariants.{NotASignature, BlockLabel}
use Rattle.opgp_frame.specs.Header.{is_type}
use Rattle.opgp_frame.specs.Packet.{PacketValue}
use Rattle.opgp_keyring.specs.Bodies.{IsSound, IsFirstBodyFault}
use Rattle.opgp_keyring.specs.Composition.{Item, of_label, of_packet, placed_in, packets_in}
use Rattle.opgp_keyring.specs.Composition.{labels_fit, fault_at}
use Rattle.opgp_keyring.specs.Keyring.{is_filler}
use Rattle.opgp_keyring.specs.Signed.{end_block, end_pos, signature_bodies}

-- signatures (5.2), and fillers, which may be anywhere
abbrev pub is_detached_type : ℕ → Bool
is_detached_type kind = is_type packet.Signature kind || is_filler kind

abbrev pub IsDetached : PacketValue → Type 0
IsDetached p = is_detached_type p.kind ≡ true

-- the packets are at least one signature, and fillers
pub record AreDetached (ps : List PacketValue) : Type 0 where
  pub types : All IsDetached ps
  pub some : 0 < length (signature_bodies ps)

-- ---- the first fault
-- a label that isn't the expected one, or a packet of another type
abbrev pub IsDetachedFaultAt : Item → Fault → Type 0
IsDetachedFaultAt (of_label block fits) f = (fits ≡ false) × (f ≡ fault_at BlockLabel block 0)
IsDetachedFaultAt (of_packet p) f =
    (is_detached_type p.packet.kind ≡ false) × (f ≡ fault_at NotASignature p.block p.pos)

-- the first item at fault: the packets before it are signatures and fillers, and the labels before
-- it are the expected ones
pub record DetachedStopsAt (items : List Item) (f : Fault) : Type 0 where
  pub before : List Item
  pub at : Item
  pub after : List Item
  pub whole : items ≡ before ++ at ∷ after
  pub types : All IsDetached (packets_in before)
  pub labels : labels_fit before ≡ true
  pub here : IsDetachedFaultAt at f

-- no item is at fault, but there is no signature: the fault is at the end of the last block
pub record LacksSignature (end : ℕ) (items : List Item) (f : Fault) : Type 0 where
  pub types : All IsDetached (packets_in items)
  pub labels : labels_fit items ≡ true
  pub lacks : signature_bodies (packets_in items) ≡ []
  pub is : f ≡ fault_at NotASignature (end_block items) end

-- Given where the last block ends: bodies come first, and a fault in the order is reported only if
-- no body has one. The policy says what becomes of malformed signatures.
abbrev pub IsDetachedFaultBy : Malformed → ℕ → List Item → Fault → Type 0
IsDetachedFaultBy policy end items f =
    IsFirstBodyFault policy (placed_in items) f
    ⊎ (All (IsSound policy) (placed_in items)
    × (DetachedStopsAt items f ⊎ LacksSignature end items f))

abbrev pub IsDetachedFault : Malformed → List Item → Fault → Type 0
IsDetachedFault policy items f = IsDetachedFaultBy policy (end_pos items) items f

-- all labels are the expected ones, no body has a fault, and the packets, all of them in order, are
-- those of the detached signatures
pub record IsDetachedOf (policy : Malformed) (items : List Item)
    (ps : List PacketValue) : Type 0 where
  pub labels : labels_fit items ≡ true
  pub sound : All (IsSound policy) (placed_in items)
  pub flat : ps ≡ packets_in items
  pub detached : AreDetached ps

-- Composition: which keyring a list of packets is, and the first fault of one that isn't any (RFC
-- 9580, 10.1).
use Rattle.std.specs.Prelude.{◌≡◌, ℕ, ◌≤◌, Bool, true, false, ◌||◌, ◌&&◌, not, List, []}
use Rattle.std.specs.Prelude.{◌∷◌, ◌++◌, All, if◌then◌else◌}
use Rattle.std.specs.List.{list_any}
use Rattle.opgp_octets.specs.declared.limits.Limits.{Limits}
use Rattle.opgp_octets.specs.Limits.{cert_limit}
use Rattle.opgp_octets.specs.declared.packet_type.PacketType.TheVariants as packet
use Rattle.opgp_octets.specs.declared.fault.Fault.{Fault}
use Rattle.opgp_octets.specs.declared.fault.Layer.TheVariants.{Composition}
use Rattle.opgp_octets.specs.declared.fault.Reason.{Reason}
use Rattle.opgp_octets.specs.declared.fault.Reason.TheVariants as reasons
use Rattle.opgp_frame.specs.declared.packet.Placed.{Placed}
use Rattle.opgp_frame.specs.Packet.{PacketValue}
use Rattle.opgp_keyring.specs.Keyring.{KeyringValue, IsKeyring, flat, certificate_packets, octets_of}
use Rattle.opgp_frame.specs.Header.{is_type}
use Rattle.opgp_keyring.specs.Keyring.{is_primary, is_head, is_hung}

-- the lead and each certificate take no more octets than the limit
pub record FitsLimits (limits : Limits) (r : KeyringValue) : Type 0 where
  pub lead : octets_of r.lead ≤ cert_limit limits
  pub certificates : All (λ c. octets_of (certificate_packets c) ≤ cert_limit limits) r.certificates

-- the packets, in order, are those of the keyring
pub record Composes (limits : Limits) (ps : List PacketValue) (r : KeyringValue) : Type 0 where
  pub keyring : IsKeyring r
  pub whole : flat r ≡ ps
  pub fits : FitsLimits limits r

-- the packets are those of some keyring
abbrev pub AreKeyring : Limits → List PacketValue → Type 0
AreKeyring limits ps = (r : KeyringValue) × Composes limits ps r

-- ---- the first fault

-- keyrings have packets of this type
abbrev pub stands_in_keyring : ℕ → Bool
stands_in_keyring kind = is_primary kind || (is_head kind || is_hung kind)

-- signatures and heads of components must follow a primary key
abbrev pub needs_primary : ℕ → Bool
needs_primary kind = is_type packet.Signature kind || is_head kind

abbrev pub has_primary : List PacketValue → Bool
has_primary ps = list_any (λ p. is_primary p.kind) ps

-- why packets followed by this one aren't a keyring, though they alone are: the first reason that
-- is true
abbrev pub order_reason : List PacketValue → PacketValue → Reason
order_reason ps p =
    if not (stands_in_keyring p.kind) then reasons.NotInKeyring
    else (if needs_primary p.kind && not (has_primary ps) then reasons.NoPrimary
    else reasons.CertTooLong)

-- What is composed, in order: the label of each block, which is the expected one or not, and then
-- its packets.
pub data Item : Type 0 where
  of_label : ℕ → Bool → Item
  of_packet : Placed → Item

abbrev pub placed_in : List Item → List Placed
placed_in [] = []
placed_in (of_label block fits ∷ items) = placed_in items
placed_in (of_packet p ∷ items) = p ∷ placed_in items

abbrev pub packets_in : List Item → List PacketValue
packets_in [] = []
packets_in (of_label block fits ∷ items) = packets_in items
packets_in (of_packet p ∷ items) = p.packet ∷ packets_in items

-- each label is the expected one
abbrev pub labels_fit : List Item → Bool
labels_fit [] = true
labels_fit (of_label block fits ∷ items) = fits && labels_fit items
labels_fit (of_packet p ∷ items) = labels_fit items

abbrev pub fault_at : Reason → ℕ → ℕ → Fault
fault_at reason block pos =
    record { layer = Composition; reason = reason; block = block; pos = pos; inner = 0 }

-- after packets that are a keyring, this is the fault
abbrev pub IsFaultAt : Limits → List PacketValue → Item → Fault → Type 0
IsFaultAt limits ps (of_label block fits) f =
    (fits ≡ false) × (f ≡ fault_at reasons.BlockLabel block 0)
IsFaultAt limits ps (of_packet p) f =
    (AreKeyring limits (ps ++ p.packet ∷ []) → ⊥)
    × (f ≡ fault_at (order_reason ps p.packet) p.block p.pos)

-- the first item at fault: the packets before it are a keyring, and the labels before it the
-- expected ones
pub record IsOrderFault (limits : Limits) (items : List Item) (f : Fault) : Type 0 where
  pub before : List Item
  pub at : Item
  pub after : List Item
  pub whole : items ≡ before ++ at ∷ after
  pub keyring : AreKeyring limits (packets_in before)
  pub labels : labels_fit before ≡ true
  pub here : IsFaultAt limits (packets_in before) at f

-- The outcome of composing packets: their keyring, or the one fault.
use Rattle.std.specs.Prelude.{◌≡◌, true, List, [], ◌∷◌, ◌++◌, map, All, ◌⊎◌}
use Rattle.opgp_octets.specs.declared.limits.Limits.{Limits}
use Rattle.opgp_octets.specs.Limits.{malformed_of}
use Rattle.opgp_octets.specs.declared.fault.Fault.{Fault}
use Rattle.opgp_octets.specs.declared.malformed.Malformed.{Malformed}
use Rattle.opgp_octets.specs.Octets.{IsOctets}
use Rattle.opgp_frame.specs.Packet.{PacketValue}
use Rattle.opgp_keyring.specs.Bodies.{IsSound, IsFirstBodyFault}
use Rattle.opgp_keyring.specs.Composition.{Item, of_label, of_packet, placed_in, packets_in}
use Rattle.opgp_keyring.specs.Composition.{labels_fit, Composes, IsOrderFault}
use Rattle.opgp_keyring.specs.Keyring.{KeyringValue, CertificateValue}

-- bodies come first: a fault in the order is reported only if no body has one
abbrev pub IsFault : Limits → List Item → Fault → Type 0
IsFault limits items f =
    IsFirstBodyFault (malformed_of limits) (placed_in items) f
    ⊎ (All (IsSound (malformed_of limits)) (placed_in items) × IsOrderFault limits items f)

-- a packet whose body has no fault, or a label
abbrev pub IsSoundItem : Malformed → Item → Type 0
IsSoundItem policy (of_label block fits) = Unit {0}
IsSoundItem policy (of_packet p) = IsSound policy p

-- its numbers are octets
abbrev pub HasOctets : Item → Type 0
HasOctets (of_label block fits) = Unit {0}
HasOctets (of_packet p) = IsOctets p.packet.body

-- all labels are the expected ones, no body has a fault, and the packets are those of the keyring
pub record IsKeyringOf (limits : Limits) (items : List Item) (r : KeyringValue) : Type 0 where
  pub labels : labels_fit items ≡ true
  pub sound : All (IsSound (malformed_of limits)) (placed_in items)
  pub composes : Composes limits (packets_in items) r

-- The parts of a keyring, in the order in which they become ready: the lead, if there is one, and
-- each certificate.
pub data PartValue : Type 0 where
  of_lead : List PacketValue → PartValue
  of_certificate : CertificateValue → PartValue

abbrev pub lead_parts : List PacketValue → List PartValue
lead_parts [] = []
lead_parts (p ∷ ps) = of_lead (p ∷ ps) ∷ []

abbrev pub parts_of : KeyringValue → List PartValue
parts_of r = lead_parts r.lead ++ map of_certificate r.certificates

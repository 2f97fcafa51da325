-- Keyrings of public keys (RFC 9580, 10.1): their structure, and the packets that they consist of.
use Rattle.std.specs.Prelude.{◌≡◌, ℕ, Bool, true, ◌||◌, nat_le, List, ◌∷◌, ◌++◌, length, All}
use Rattle.std.specs.List.{flat_map}
use Rattle.opgp_octets.specs.declared.packet_type.PacketType.TheVariants as packet
use Rattle.opgp_frame.specs.Header.{is_type}
use Rattle.opgp_frame.specs.Packet.{PacketValue, spelling}

-- marker, trust and padding packets (5.8, 5.10, 5.14), and those of types that aren't critical
-- (4.3), which are kept in their place
abbrev pub is_filler : ℕ → Bool
is_filler kind = is_type packet.Marker kind
    || (is_type packet.Trust kind || (is_type packet.Padding kind || nat_le 40 kind))

-- a public key
abbrev pub is_primary : ℕ → Bool
is_primary kind = is_type packet.PublicKey kind

-- a user ID, a user attribute or a public subkey
abbrev pub is_head : ℕ → Bool
is_head kind = is_type packet.UserId kind
    || (is_type packet.UserAttribute kind || is_type packet.PublicSubkey kind)

-- a signature or a filler
abbrev pub is_hung : ℕ → Bool
is_hung kind = is_type packet.Signature kind || is_filler kind

abbrev pub IsFiller : PacketValue → Type 0
IsFiller p = is_filler p.kind ≡ true

abbrev pub IsPrimary : PacketValue → Type 0
IsPrimary p = is_primary p.kind ≡ true

abbrev pub IsHead : PacketValue → Type 0
IsHead p = is_head p.kind ≡ true

abbrev pub IsHung : PacketValue → Type 0
IsHung p = is_hung p.kind ≡ true

-- A user ID, an attribute or a subkey is followed by the signatures on it.
pub record ComponentValue : Type 0 where
  pub head : PacketValue
  pub hangs : List PacketValue

-- A transferable public key: the primary key, the signatures on it, and its components, in any
-- order.
pub record CertificateValue : Type 0 where
  pub primary : PacketValue
  pub hangs : List PacketValue
  pub components : List ComponentValue

-- A keyring: transferable public keys one after the other; fillers may come first.
pub record KeyringValue : Type 0 where
  pub lead : List PacketValue
  pub certificates : List CertificateValue

pub record IsComponent (c : ComponentValue) : Type 0 where
  pub head : IsHead c.head
  pub hangs : All IsHung c.hangs

pub record IsCertificate (c : CertificateValue) : Type 0 where
  pub primary : IsPrimary c.primary
  pub hangs : All IsHung c.hangs
  pub components : All IsComponent c.components

pub record IsKeyring (r : KeyringValue) : Type 0 where
  pub lead : All IsFiller r.lead
  pub certificates : All IsCertificate r.certificates

-- the packets, in order
abbrev pub component_packets : ComponentValue → List PacketValue
component_packets c = c.head ∷ c.hangs

abbrev pub certificate_packets : CertificateValue → List PacketValue
certificate_packets c = c.primary ∷ (c.hangs ++ flat_map component_packets c.components)

abbrev pub flat : KeyringValue → List PacketValue
flat r = r.lead ++ flat_map certificate_packets r.certificates

-- how many octets packets take
unfoldable pub octets_of : List PacketValue → ℕ
octets_of ps = length (flat_map spelling ps)

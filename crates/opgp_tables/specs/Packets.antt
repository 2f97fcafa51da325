-- The table of a keyring's packets: a row for each packet, in order, and the octets of all bodies.
use Rattle.std.specs.Prelude.{ℕ, ◌+◌, List, [], ◌∷◌, ◌++◌, length, replicate, take, drop}
use Rattle.std.specs.List.{flat_map}
use Rattle.opgp_frame.specs.Packet.{PacketValue}
use Rattle.opgp_keyring.specs.Keyring.{CertificateValue, ComponentValue, KeyringValue, flat}
use Rattle.opgp_keyring.specs.Keyring.{certificate_packets, component_packets}
use Rattle.opgp_tables.specs.declared.packet_row.PacketRow.{PacketRow}
use Rattle.opgp_tables.specs.Room.{none}

abbrev pub bodies : List PacketValue → List ℕ
bodies ps = flat_map (λ p. p.body) ps

abbrev pub packet_row : ℕ → ℕ → ℕ → ℕ → PacketValue → PacketRow
packet_row certificate component hang at p = record {
  certificate = certificate;
  component = component;
  hang = hang;
  at = at;
  size = length p.body;
  kind = p.kind;
  reserved = replicate 7 0;
}

-- what hangs on one key or component, numbered from here
abbrev pub hangs_packets : ℕ → ℕ → ℕ → ℕ → List PacketValue → List PacketRow
hangs_packets certificate component n at [] = []
hangs_packets certificate component n at (p ∷ ps) = packet_row certificate component n at p
    ∷ hangs_packets certificate component (n + 1) (at + length p.body) ps

-- a component: its head, and what hangs on it
abbrev pub component_rows : ℕ → ℕ → ℕ → ComponentValue → List PacketRow
component_rows certificate n at c = packet_row certificate n none at c.head
    ∷ hangs_packets certificate n 0 (at + length c.head.body) c.hangs

abbrev pub components_rows : ℕ → ℕ → ℕ → List ComponentValue → List PacketRow
components_rows certificate n at [] = []
components_rows certificate n at (c ∷ cs) = component_rows certificate n at c
    ++ components_rows certificate (n + 1) (at + length (bodies (component_packets c))) cs

-- a certificate: its primary key, what hangs on it, and its components
abbrev pub certificate_rows : ℕ → ℕ → CertificateValue → List PacketRow
certificate_rows n at c = packet_row n none none at c.primary
    ∷ (hangs_packets n none 0 (at + length c.primary.body) c.hangs
    ++ components_rows n 0 (at + length c.primary.body + length (bodies c.hangs)) c.components)

abbrev pub certificates_rows : ℕ → ℕ → List CertificateValue → List PacketRow
certificates_rows n at [] = []
certificates_rows n at (c ∷ cs) = certificate_rows n at c
    ++ certificates_rows (n + 1) (at + length (bodies (certificate_packets c))) cs

-- the fillers that lead the keyring hang on no certificate
abbrev pub packet_rows : KeyringValue → List PacketRow
packet_rows r = hangs_packets none none 0 0 r.lead
    ++ certificates_rows 0 (length (bodies r.lead)) r.certificates

abbrev pub packet_bytes : KeyringValue → List ℕ
packet_bytes r = bodies (flat r)

-- the type of a packet, and its body
abbrev pub packet_shown : PacketValue → ℕ × List ℕ
packet_shown p = (p.kind, p.body)

-- those of a row, whose body is in these octets
abbrev pub row_shown : List ℕ → PacketRow → ℕ × List ℕ
row_shown bytes row = (row.kind, take row.size (drop row.at bytes))

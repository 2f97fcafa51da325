-- The table of a keyring's keys: a row for each key, in order, and the octets that they point into.
use Rattle.std.specs.Prelude.{ℕ, ◌+◌, List, [], ◌∷◌, ◌++◌, length, map, Result, Ok, Err}
use Rattle.std.specs.Prelude.{◌==◌, if◌then◌else◌, drop, replicate}
use Rattle.std.specs.List.{flat_map}
use Rattle.opgp_octets.specs.declared.fault.BodyFault.{BodyFault}
use Rattle.opgp_octets.specs.declared.packet_type.PacketType.TheVariants as packet
use Rattle.opgp_packet.specs.Fields.{Field}
use Rattle.opgp_packet.specs.FieldReading.{body_at}
use Rattle.opgp_packet.specs.KeyBody.{key}
use Rattle.opgp_frame.specs.Header.{is_type}
use Rattle.opgp_hash.specs.Fingerprint.{print_octets, print_size}
use Rattle.opgp_hash.specs.KeyId.{id_of}
use Rattle.opgp_report.specs.First.{print_of}
use Rattle.opgp_keyring.specs.Keyring.{CertificateValue, ComponentValue, KeyringValue}
use Rattle.opgp_tables.specs.declared.key_row.KeyRow.{KeyRow}
use Rattle.opgp_tables.specs.Parts.{number_at, four, values_of}
use Rattle.opgp_tables.specs.Room.{none, padded}

-- the fields of a key's body (RFC 9580, 5.5.2): version, creation time, algorithm, in version 6 a
-- count, material
abbrev pub fields_read : Result (List Field) BodyFault → List Field
fields_read (Ok fields) = fields
fields_read (Err fault) = []

abbrev pub fields_of : List ℕ → List Field
fields_of body = fields_read (body_at key body)

abbrev pub material_at : List Field → List Field
material_at fields = if number_at fields 0 == 6 then drop 4 fields else drop 3 fields

-- the material's four fields, as octets
abbrev pub key_parts : List ℕ → List (List ℕ)
key_parts body = four (values_of (material_at (fields_of body)))

abbrev pub key_material : List ℕ → List ℕ
key_material body = flat_map (λ o. o) (key_parts body)

-- the row of a key of this body whose material stands here
abbrev pub key_row : ℕ → ℕ → ℕ → List ℕ → KeyRow
key_row certificate component at body =
    let print = print_of body in record {
      certificate = certificate;
      component = component;
      at = at;
      sizes = map length (key_parts body);
      created = number_at (fields_of body) 1;
      version = number_at (fields_of body) 0;
      algorithm = number_at (fields_of body) 2;
      print_size = print_size print;
      print = padded 32 (print_octets print);
      key_id = id_of print;
      reserved = replicate 9 0;
    }

-- ---- the table
-- a component is a key if it is a subkey
abbrev pub component_keys : ℕ → ℕ → ℕ → ComponentValue → List KeyRow
component_keys certificate n at c =
    if is_type packet.PublicSubkey c.head.kind then key_row certificate n at c.head.body ∷ []
    else []

abbrev pub component_material : ComponentValue → List ℕ
component_material c =
    if is_type packet.PublicSubkey c.head.kind then key_material c.head.body else []

-- components, numbered from here
abbrev pub components_keys : ℕ → ℕ → ℕ → List ComponentValue → List KeyRow
components_keys certificate n at [] = []
components_keys certificate n at (c ∷ cs) = component_keys certificate n at c
    ++ components_keys certificate (n + 1) (at + length (component_material c)) cs

abbrev pub certificate_material : CertificateValue → List ℕ
certificate_material c = key_material c.primary.body ++ flat_map component_material c.components

abbrev pub certificate_rows : ℕ → ℕ → CertificateValue → List KeyRow
certificate_rows n at c = key_row n none at c.primary.body
    ∷ components_keys n 0 (at + length (key_material c.primary.body)) c.components

abbrev pub certificates_rows : ℕ → ℕ → List CertificateValue → List KeyRow
certificates_rows n at [] = []
certificates_rows n at (c ∷ cs) = certificate_rows n at c
    ++ certificates_rows (n + 1) (at + length (certificate_material c)) cs

abbrev pub key_rows : KeyringValue → List KeyRow
key_rows r = certificates_rows 0 0 r.certificates

abbrev pub key_bytes : KeyringValue → List ℕ
key_bytes r = flat_map certificate_material r.certificates

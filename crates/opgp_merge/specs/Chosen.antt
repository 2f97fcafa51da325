-- Certificates of which chosen parts stay.
use Rattle.std.specs.Prelude.{ℕ, ◌+◌, Bool, false, ◌&&◌, ◌||◌, not, ◌==◌, if◌then◌else◌}
use Rattle.std.specs.Prelude.{List, [], ◌∷◌, ◌++◌, length, map, Option, Some, None, Result, Ok, Err}
use Rattle.std.specs.List.{filter, list_any}
use Rattle.opgp_octets.specs.declared.fault.BodyFault.{BodyFault}
use Rattle.opgp_octets.specs.declared.packet_type.PacketType.TheVariants as packet
use Rattle.opgp_frame.specs.Header.{is_type}
use Rattle.opgp_frame.specs.Packet.{PacketValue}
use Rattle.opgp_packet.specs.SignatureBody.{SignatureValue, signature_at}
use Rattle.opgp_hash.specs.declared.fingerprints.Fingerprint.{Fingerprint}
use Rattle.opgp_report.specs.First.{has_id, has_print, print_of}
use Rattle.opgp_report.specs.Named.{named_of}
use Rattle.opgp_report.specs.Signer.{NameValue, by_id, by_print, unnamed}
use Rattle.opgp_keyring.specs.Composed.{PartValue, of_certificate, of_lead}
use Rattle.opgp_keyring.specs.Keyring.{CertificateValue, ComponentValue, KeyringValue}
use Rattle.opgp_merge.specs.declared.choice.Choice.{Choice}

-- ---- signatures
-- the key with this fingerprint has this name
abbrev pub is_name_of : NameValue → Fingerprint → Bool
is_name_of (by_print version octets) print = has_print version octets print
is_name_of (by_id id) print = has_id id print
is_name_of unnamed print = false

-- a signature that names this key as its issuer (RFC 9580, 5.2.2, 5.2.3.12, 5.2.3.35); a malformed
-- one (5.2.5) names none
abbrev pub names_key : Fingerprint → Result SignatureValue BodyFault → Bool
names_key print (Ok signature) = is_name_of (named_of signature) print
names_key print (Err fault) = false

-- a filler, or a signature that names this key
abbrev pub is_own : Fingerprint → PacketValue → Bool
is_own print p = not (is_type packet.Signature p.kind) || names_key print (signature_at p.body)

-- all of these signatures and fillers, or, if there is a key that owns them, its own
abbrev pub own_hangs : Option Fingerprint → List PacketValue → List PacketValue
own_hangs None ps = ps
own_hangs (Some print) ps = filter (is_own print) ps

-- the key whose signatures alone stay: the primary key, or none if all of them stay
abbrev pub owner : Choice → CertificateValue → Option Fingerprint
owner choice c = if choice.own_signatures then Some (print_of c.primary.body) else None

-- ---- components
abbrev pub is_user_id : ComponentValue → Bool
is_user_id c = is_type packet.UserId c.head.kind

abbrev pub is_attribute : ComponentValue → Bool
is_attribute c = is_type packet.UserAttribute c.head.kind

-- the number of a user ID is among those that are named, or none is named
abbrev pub is_chosen : List ℕ → ℕ → Bool
is_chosen named number = length named == 0 || list_any (λ n. n == number) named

-- a component stays that is a user ID (5.11) of a chosen number, an attribute (5.12) where they
-- stay, or a subkey; `number` user IDs are before it
abbrev pub component_stays : Choice → ℕ → ComponentValue → Bool
component_stays choice number c = if is_user_id c then is_chosen choice.user_ids.now number
    else not (choice.no_attributes && is_attribute c)

abbrev pub next_number : ℕ → ComponentValue → ℕ
next_number number c = if is_user_id c then number + 1 else number

-- the components that stay, in order; `number` user IDs are before them
abbrev pub components_from : ℕ → Choice → List ComponentValue → List ComponentValue
components_from number choice [] = []
components_from number choice (c ∷ cs) =
    (if component_stays choice number c then c ∷ [] else [])
    ++ components_from (next_number number c) choice cs

-- ---- certificates and keyrings (10.1)
abbrev pub chosen_component : Option Fingerprint → ComponentValue → ComponentValue
chosen_component own c = record { head = c.head; hangs = own_hangs own c.hangs }

abbrev pub chosen_certificate : Choice → CertificateValue → CertificateValue
chosen_certificate choice c = record {
  primary = c.primary;
  hangs = own_hangs (owner choice c) c.hangs;
  components = map (chosen_component (owner choice c)) (components_from 0 choice c.components);
}

-- the lead stays
abbrev pub chosen_keyring : Choice → KeyringValue → KeyringValue
chosen_keyring choice r = record {
  lead = r.lead;
  certificates = map (chosen_certificate choice) r.certificates;
}

-- the same of a part
abbrev pub chosen_part : Choice → PartValue → PartValue
chosen_part choice (of_lead ps) = of_lead ps
chosen_part choice (of_certificate c) = of_certificate (chosen_certificate choice c)

-- ---- the choice of all parts
abbrev pub is_everything : Choice → Bool
is_everything choice = not choice.own_signatures
    && (not choice.no_attributes && length choice.user_ids.now == 0)

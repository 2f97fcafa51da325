-- The signatures of a keyring, in order: each signature packet of a certificate, and after a subkey
-- binding each signature that is embedded in it (RFC 9580, 5.2.4, 5.2.3.34).
use Rattle.std.specs.Prelude.{ℕ, ◌+◌, Bool, true, false, ◌&&◌, ◌||◌, ◌==◌, if◌then◌else◌}
use Rattle.std.specs.Prelude.{List, [], ◌∷◌, ◌++◌, Option, Some, None, is_none, slice_get}
use Rattle.std.specs.Prelude.{Result, Ok, Err}
use Rattle.std.specs.List.{flat_map}
use Rattle.std.specs.Option.{option_map, option_and_then}
use Rattle.opgp_octets.specs.SignatureType.{signature_type_number}
use Rattle.opgp_octets.specs.SubpacketKind.{subpacket_kind_number}
use Rattle.opgp_octets.specs.declared.fault.BodyFault.{BodyFault}
use Rattle.opgp_octets.specs.declared.packet_type.PacketType.TheVariants as packet
use Rattle.opgp_octets.specs.declared.signature_type.SignatureType.TheVariants as types
use Rattle.opgp_octets.specs.declared.subpacket_kind.SubpacketKind.TheVariants as kinds
use Rattle.opgp_frame.specs.Packet.{PacketValue}
use Rattle.opgp_packet.specs.Areas.{hashed_subs, unhashed_subs}
use Rattle.opgp_packet.specs.SignatureBody.{SignatureValue, signature_at}
use Rattle.opgp_packet.specs.Subpackets.{Sub}
use Rattle.opgp_packet.specs.SubView.{kind_shown}
use Rattle.opgp_hash.specs.declared.site.Site.{Site}
use Rattle.opgp_hash.specs.declared.site.Site.TheVariants.{Hung, Embedded}
use Rattle.opgp_hash.specs.SignedValue.{SignedValue, signed_of}
use Rattle.opgp_hash.specs.SubjectValue.{SubjectValue, binary, one, two, on_user_id, on_attribute}
use Rattle.opgp_frame.specs.Header.{is_type}
use Rattle.opgp_keyring.specs.Keyring.{CertificateValue, ComponentValue, KeyringValue}
use Rattle.opgp_report.specs.declared.place.Place.{Place}
use Rattle.opgp_report.specs.RowValue.{RowValue}

-- a signature packet (5.2)
abbrev pub is_signature : PacketValue → Bool
is_signature p = is_type packet.Signature p.kind

-- a public key or a public subkey (5.5.1.1, 5.5.1.2)
abbrev pub is_key : PacketValue → Bool
is_key p = is_type packet.PublicKey p.kind || is_type packet.PublicSubkey p.kind

-- ---- what signatures are made over
-- on a component, by its head: a user ID, a user attribute, or else a subkey
abbrev pub on_head : List ℕ → PacketValue → SubjectValue
on_head primary head =
    if is_type packet.UserId head.kind then on_user_id primary head.body
    else (if is_type packet.UserAttribute head.kind then on_attribute primary head.body
    else two primary head.body)

abbrev pub is_on_two : SubjectValue → Bool
is_on_two (binary content) = false
is_on_two (one key) = false
is_on_two (two primary subkey) = true
is_on_two (on_user_id primary id) = false
is_on_two (on_attribute primary body) = false

-- ---- what is embedded
-- the body of the signature in a subpacket, if it embeds one (5.2.3.34)
abbrev pub held_body : Sub → List (List ℕ)
held_body s =
    if kind_shown s.kind == subpacket_kind_number kinds.EmbeddedSignature then s.octets ∷ [] else []

abbrev pub held_bodies : List Sub → List (List ℕ)
held_bodies subs = flat_map held_body subs

-- a subkey binding (5.2.1.8)
abbrev pub is_binding : Option SignedValue → Bool
is_binding None = false
is_binding (Some s) = s.kind == signature_type_number types.SubkeyBinding

-- those in a subkey binding, the hashed area first
abbrev pub bodies_within : SubjectValue → Result SignatureValue BodyFault → List (List ℕ)
bodies_within subject (Err fault) = []
bodies_within subject (Ok v) =
    if is_on_two subject && is_binding (signed_of v)
    then held_bodies (hashed_subs v) ++ held_bodies (unhashed_subs v) else []

-- ---- the signatures
-- octets in the role of a signature: at which site and place, over what, and which octets
pub record Standing : Type 0 where
  pub site : Site
  pub place : Place
  pub subject : SubjectValue
  pub body : List ℕ

abbrev pub stands : Site → Place → SubjectValue → List ℕ → Standing
stands site place subject body = record {
  site = site;
  place = place;
  subject = subject;
  body = body;
}

abbrev pub hung_at : ℕ → Option ℕ → ℕ → Place
hung_at certificate component n = record {
  certificate = certificate;
  component = component;
  hang = n;
  nested = None;
}

abbrev pub nested_at : Place → ℕ → Place
nested_at place n = record {
  certificate = place.certificate;
  component = place.component;
  hang = place.hang;
  nested = Some n;
}

-- the results for the items by their number, counted from this one, one after the other
abbrev pub by_number : {A B : Type 0} → (ℕ → A → List B) → ℕ → List A → List B
by_number make n [] = []
by_number make n (x ∷ xs) = make n x ++ by_number make (n + 1) xs

-- embedded octets
abbrev pub nested_standing : Place → SubjectValue → ℕ → List ℕ → List Standing
nested_standing place subject n body = stands Embedded (nested_at place n) subject body ∷ []

-- a signature, and what is embedded in it
abbrev pub signature_standing : Place → SubjectValue → List ℕ → List Standing
signature_standing place subject body =
    stands Hung place subject body
    ∷ by_number (nested_standing place subject) 0 (bodies_within subject (signature_at body))

-- the signatures among the packets on a primary key or a component; fillers aren't any
abbrev pub hang_standing : ℕ → Option ℕ → SubjectValue → ℕ → PacketValue → List Standing
hang_standing certificate component subject n p =
    if is_signature p then signature_standing (hung_at certificate component n) subject p.body
    else []

abbrev pub hangs_standing : ℕ → Option ℕ → SubjectValue → List PacketValue → List Standing
hangs_standing certificate component subject hangs =
    by_number (hang_standing certificate component subject) 0 hangs

abbrev pub component_standing : List ℕ → ℕ → ℕ → ComponentValue → List Standing
component_standing primary certificate n c =
    hangs_standing certificate (Some n) (on_head primary c.head) c.hangs

abbrev pub certificate_standing : ℕ → CertificateValue → List Standing
certificate_standing n c =
    hangs_standing n None (one c.primary.body) c.hangs
    ++ by_number (component_standing c.primary.body n) 0 c.components

abbrev pub standing_in : KeyringValue → List Standing
standing_in r = by_number certificate_standing 0 r.certificates

-- ---- the packet at a place
-- the packets on a certificate's primary key, or on its component of this number
abbrev pub hangs_of : CertificateValue → Option ℕ → Option (List PacketValue)
hangs_of c None = Some c.hangs
hangs_of c (Some n) = option_map (λ k. k.hangs) (slice_get c.components n)

-- the packet at a place of a keyring, if there is one
abbrev pub hang_at : KeyringValue → Place → Option PacketValue
hang_at r place =
    option_and_then (λ c. option_and_then (λ hangs. slice_get hangs place.hang)
    (hangs_of c place.component)) (slice_get r.certificates place.certificate)

-- a row of a packet's own signature, not of one embedded in it
abbrev pub is_outer : RowValue → Bool
is_outer row = is_none row.place.nested

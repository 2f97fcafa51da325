-- The value of a packet's contents: its type and the octets of its body.
use Rattle.std.specs.Prelude.{◌≡◌, ℕ, true, List, Err}
use Rattle.opgp_octets.specs.PacketType.{packet_type_number}
use Rattle.opgp_octets.specs.declared.fault.BodyFault.{BodyFault}
use Rattle.opgp_octets.specs.declared.packet_type.PacketType.TheVariants as packet
use Rattle.opgp_packet.specs.Parsed.{body_octets}
use Rattle.opgp_packet.specs.SignatureBody.{signature_at}
use Rattle.opgp_packet.specs.SigView.{sig_view_octets}
use Rattle.opgp_keyring.specs.declared.content.Content.{Content}
use Rattle.opgp_keyring.specs.declared.content.Content.TheVariants as content
use Rattle.opgp_keyring.specs.Keyring.{is_filler}

abbrev pub content_kind : Content → ℕ
content_kind (content.Primary key) = packet_type_number packet.PublicKey
content_kind (content.Subkey key) = packet_type_number packet.PublicSubkey
content_kind (content.UserId id) = packet_type_number packet.UserId
content_kind (content.Attribute attribute) = packet_type_number packet.UserAttribute
content_kind (content.Signature signature) = packet_type_number packet.Signature
content_kind (content.Malformed body) = packet_type_number packet.Signature
content_kind (content.Filler kind body) = kind

abbrev pub content_octets : Content → List ℕ
content_octets (content.Primary key) = body_octets key
content_octets (content.Subkey key) = body_octets key
content_octets (content.UserId id) = id.now
content_octets (content.Attribute attribute) = body_octets attribute
content_octets (content.Signature signature) = sig_view_octets signature
content_octets (content.Malformed body) = body.now
content_octets (content.Filler kind body) = body.now

-- octets that are no signature's: they have a fault as one (5.2.5)
abbrev pub IsMalformed : List ℕ → Type 0
IsMalformed o = (f : BodyFault) × (signature_at o ≡ Err f)

-- a body that is kept as it is: no signature's, or one of a type that isn't read
abbrev pub IsKept : Content → Type 0
IsKept (content.Malformed body) = IsMalformed body.now
IsKept (content.Filler kind body) = is_filler kind ≡ true
IsKept c = Unit {0}

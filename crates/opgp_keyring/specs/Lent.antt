-- The packet that begins a component, borrowed.
use Rattle.std.specs.Prelude.{ℕ, List}
use Rattle.opgp_octets.specs.PacketType.{packet_type_number}
use Rattle.opgp_octets.specs.declared.packet_type.PacketType.TheVariants as types
use Rattle.opgp_packet.specs.Parsed.{body_octets}
use Rattle.opgp_keyring.specs.declared.lent.Head.{Head}
use Rattle.opgp_keyring.specs.declared.lent.Head.TheVariants as head

-- its type
abbrev pub head_kind : Head → ℕ
head_kind (head.UserId id) = packet_type_number types.UserId
head_kind (head.Attribute attribute) = packet_type_number types.UserAttribute
head_kind (head.Subkey key) = packet_type_number types.PublicSubkey

-- its body
abbrev pub head_octets : Head → List ℕ
head_octets (head.UserId id) = id.now
head_octets (head.Attribute attribute) = body_octets attribute
head_octets (head.Subkey key) = body_octets key

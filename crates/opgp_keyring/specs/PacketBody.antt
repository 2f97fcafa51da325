-- The fault of a packet's body, by the packet's type (RFC 9580, 5.2, 5.5, 5.9, 5.11, 5.12).
use Rattle.std.specs.Prelude.{◌≡◌, ℕ, List}
use Rattle.opgp_octets.specs.declared.fault.BodyFault.{BodyFault}
use Rattle.opgp_octets.specs.declared.malformed.Malformed.{Malformed}
use Rattle.opgp_octets.specs.declared.malformed.Malformed.TheVariants.{Refuse}
use Rattle.opgp_octets.specs.declared.packet_type.PacketType.{PacketType}
use Rattle.opgp_octets.specs.declared.packet_type.PacketType.TheVariants as packet
use Rattle.opgp_packet.specs.AttributeBody.{AttributeFault}
use Rattle.opgp_packet.specs.KeyBody.{KeyFault}
use Rattle.opgp_packet.specs.LiteralBody.{LiteralFault}
use Rattle.opgp_packet.specs.SignatureBody.{SignatureFault}

-- The octets aren't the body of a packet of this type, and this is their first fault. Keys,
-- attributes and literals can have one, and signatures where malformed ones are refused (5.2.5); a
-- user ID is any octets, and bodies of other types aren't read.
abbrev pub HasBodyFault : Malformed → PacketType → List ℕ → BodyFault → Type 0
HasBodyFault policy packet.Signature o f = (policy ≡ Refuse) × SignatureFault o f
HasBodyFault policy packet.PublicKey o f = KeyFault o f
HasBodyFault policy packet.PublicSubkey o f = KeyFault o f
HasBodyFault policy packet.LiteralData o f = LiteralFault o f
HasBodyFault policy packet.UserAttribute o f = AttributeFault o f
HasBodyFault policy other o f = ⊥

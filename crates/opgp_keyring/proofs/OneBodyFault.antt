-- A packet's body has one fault at most, since fields and signatures have.
use Rattle.std.proofs.Common.{◌≡◌, ℕ, List, length}
use Rattle.opgp_octets.specs.declared.malformed.Malformed.{Malformed}
use Rattle.opgp_octets.specs.Octets.{IsOctets}
use Rattle.opgp_octets.specs.declared.fault.BodyFault.{BodyFault}
use Rattle.opgp_octets.specs.declared.packet_type.PacketType.{PacketType}
use Rattle.opgp_octets.specs.declared.packet_type.PacketType.TheVariants.{Signature, PublicKey, PublicSubkey, LiteralData, UserAttribute}
use Rattle.opgp_packet.specs.Fields.{Grammar, FirstFault}
use Rattle.opgp_packet.specs.AttributeBody.{attribute}
use Rattle.opgp_packet.specs.KeyBody.{key}
use Rattle.opgp_packet.specs.LiteralBody.{literal}
use Rattle.opgp_packet.specs.SignatureBody.{SignatureFault}
use Rattle.opgp_keyring.specs.PacketBody.{HasBodyFault}

-- fields have one first fault, and so have signatures
pub record Laws : Type 0 where
  pub fields : (grammar : Grammar) (o : List ℕ) (f g : BodyFault) → IsOctets o → FirstFault (length o) grammar o f → FirstFault (length o) grammar o g → f ≡ g
  pub signature : (o : List ℕ) (f g : BodyFault) → IsOctets o → SignatureFault o f → SignatureFault o g → f ≡ g

pub one : (policy : Malformed) (laws : Laws) (kind : PacketType) (o : List ℕ) (f g : BodyFault) → IsOctets o → HasBodyFault policy kind o f → HasBodyFault policy kind o g → f ≡ g
one policy laws Signature o f g octets p q = laws.signature o f g octets p.1 q.1
one policy laws PublicKey o f g octets p q = laws.fields key o f g octets p q
one policy laws PublicSubkey o f g octets p q = laws.fields key o f g octets p q
one policy laws LiteralData o f g octets p q = laws.fields literal o f g octets p q
one policy laws UserAttribute o f g octets p q = laws.fields attribute o f g octets p q
one policy laws other o f g octets p q = absurd p

-- Names are short; the numbers of faults and of reasons why a signature isn't hashed are those of one.
use Rattle.std.proofs.Common.{arith, ◌≡◌, ◌≤◌, ◌∙◌, length, Option, Some, ap, refl}
use Rattle.opgp_octets.specs.Fault.{reason_number, reason_of}
use Rattle.opgp_octets.proofs.Numbers.{layer_listed, reason_listed}
use Rattle.opgp_octets.specs.declared.fault.Fault.{Fault}
use Rattle.opgp_octets.specs.declared.fault.Layer.{Layer}
use Rattle.opgp_octets.specs.declared.fault.Reason.{Reason}
use Rattle.opgp_octets.specs.HashAlgorithm.{hash_algorithm_name}
use Rattle.opgp_octets.specs.KeyAlgorithm.{key_algorithm_name}
use Rattle.opgp_octets.specs.PacketType.{packet_type_name}
use Rattle.opgp_octets.specs.SignatureType.{signature_type_name}
use Rattle.opgp_octets.specs.SubpacketKind.{subpacket_kind_name}
use Rattle.opgp_octets.specs.declared.hash_algorithm.HashAlgorithm.{HashAlgorithm}
use Rattle.opgp_octets.specs.declared.hash_algorithm.HashAlgorithm.TheVariants as hash
use Rattle.opgp_octets.specs.declared.key_algorithm.KeyAlgorithm.{KeyAlgorithm}
use Rattle.opgp_octets.specs.declared.key_algorithm.KeyAlgorithm.TheVariants as key
use Rattle.opgp_octets.specs.declared.packet_type.PacketType.{PacketType}
use Rattle.opgp_octets.specs.declared.packet_type.PacketType.TheVariants as packet
use Rattle.opgp_octets.specs.declared.signature_type.SignatureType.{SignatureType}
use Rattle.opgp_octets.specs.declared.signature_type.SignatureType.TheVariants as signature
use Rattle.opgp_octets.specs.declared.subpacket_kind.SubpacketKind.{SubpacketKind}
use Rattle.opgp_octets.specs.declared.subpacket_kind.SubpacketKind.TheVariants as kind
use Rattle.opgp_hash.specs.Why.{why_text}
use Rattle.opgp_hash.specs.declared.why.Why.{Why}
use Rattle.opgp_hash.specs.declared.why.Why.TheVariants as why
use Rattle.opgp_tables.specs.FaultRow.{fault_of, fault_row, fault_with}
use Rattle.opgp_tables.specs.Jobs.{why_number}
use Rattle.opgp_tables.specs.Names.{why_of}

pub packet_short : (x : PacketType) → length (packet_type_name x) ≤ 52
unfolding packet_type_name
packet_short packet.Reserved = omega arith
packet_short x = omega arith

pub key_short : (x : KeyAlgorithm) → length (key_algorithm_name x) ≤ 52
unfolding key_algorithm_name
key_short key.Rsa = omega arith
key_short x = omega arith

pub hash_short : (x : HashAlgorithm) → length (hash_algorithm_name x) ≤ 52
unfolding hash_algorithm_name
hash_short hash.Md5 = omega arith
hash_short x = omega arith

pub signature_short : (x : SignatureType) → length (signature_type_name x) ≤ 52
unfolding signature_type_name
signature_short signature.Binary = omega arith
signature_short x = omega arith

pub kind_short : (x : SubpacketKind) → length (subpacket_kind_name x) ≤ 52
unfolding subpacket_kind_name
kind_short kind.Created = omega arith
kind_short x = omega arith

pub why_short : (w : Why) → length (why_text w) ≤ 52
why_short why.Opaque = omega arith
why_short w = omega arith

pub why_listed : (w : Why) → why_of (why_number w) ≡ Some w
unfolding why_of
why_listed why.Opaque = refl
why_listed w = refl

pub fault_listed : (f : Fault) → fault_of (fault_row f) ≡ Some f
fault_listed f =
    ap (λ (l : Option Layer). fault_with (fault_row f) l (reason_of (reason_number f.reason))) (layer_listed f.layer)
    ∙ ap (λ (r : Option Reason). fault_with (fault_row f) (Some f.layer) r) (reason_listed f.reason)

-- The names of the numbers that rows have.
use Rattle.std.specs.Prelude.{ℕ, ◌==◌, if◌then◌else◌, List, [], ◌∷◌, Option, Some, None}
use Rattle.opgp_octets.specs.Fault.{layer_name, layer_of, reason_name, reason_of}
use Rattle.opgp_octets.specs.HashAlgorithm.{hash_algorithm_name, hash_algorithm_of}
use Rattle.opgp_octets.specs.KeyAlgorithm.{key_algorithm_name, key_algorithm_of}
use Rattle.opgp_octets.specs.PacketType.{packet_type_name, packet_type_of}
use Rattle.opgp_octets.specs.Rows.{with_number}
use Rattle.opgp_octets.specs.SignatureType.{signature_type_name, signature_type_of}
use Rattle.opgp_octets.specs.SubpacketKind.{subpacket_kind_name, subpacket_kind_of}
use Rattle.opgp_octets.specs.declared.fault.Layer.{Layer}
use Rattle.opgp_octets.specs.declared.fault.Reason.{Reason}
use Rattle.opgp_octets.specs.declared.hash_algorithm.HashAlgorithm.{HashAlgorithm}
use Rattle.opgp_octets.specs.declared.hash_algorithm.HashAlgorithm.TheVariants as hash
use Rattle.opgp_octets.specs.declared.key_algorithm.KeyAlgorithm.{KeyAlgorithm}
use Rattle.opgp_octets.specs.declared.key_algorithm.KeyAlgorithm.TheVariants as key
use Rattle.opgp_octets.specs.declared.packet_type.PacketType.{PacketType}
use Rattle.opgp_octets.specs.declared.packet_type.PacketType.TheVariants as packet
use Rattle.opgp_octets.specs.declared.signature_type.SignatureType.{SignatureType}
use Rattle.opgp_octets.specs.declared.signature_type.SignatureType.TheVariants as signature
use Rattle.opgp_octets.specs.declared.subpacket_kind.SubpacketKind.{SubpacketKind}
use Rattle.opgp_octets.specs.declared.subpacket_kind.SubpacketKind.TheVariants as kind
use Rattle.opgp_hash.specs.Why.{why_text}
use Rattle.opgp_hash.specs.declared.why.Why.{Why}
use Rattle.opgp_hash.specs.declared.why.Why.TheVariants as why
use Rattle.opgp_document.specs.DocumentWhy as document
use Rattle.opgp_document.specs.declared.document_why.DocumentWhy.TheVariants.{LineEnds}
use Rattle.opgp_tables.specs.declared.names.NumberTable.{NumberTable}
use Rattle.opgp_tables.specs.declared.names.NumberTable.TheVariants as table
use Rattle.opgp_tables.specs.Jobs.{why_number}

-- ---- numbers of this library; those of layers and reasons stand with faults
unfoldable pub why_of : ℕ → Option Why
why_of n =
    with_number why_number n
    (why.Opaque ∷ why.Kind ∷ why.Misplaced ∷ why.Version ∷ why.Hash ∷ [])

-- ---- the name of what a number stands for; a registered number that stands for no other has none
abbrev pub packet_named : PacketType → Option (List ℕ)
packet_named (packet.Other n) = None
packet_named x = Some (packet_type_name x)

abbrev pub key_named : KeyAlgorithm → Option (List ℕ)
key_named (key.Other n) = None
key_named x = Some (key_algorithm_name x)

abbrev pub hash_named : HashAlgorithm → Option (List ℕ)
hash_named (hash.Other n) = None
hash_named x = Some (hash_algorithm_name x)

abbrev pub signature_named : SignatureType → Option (List ℕ)
signature_named (signature.Other n) = None
signature_named x = Some (signature_type_name x)

abbrev pub kind_named : SubpacketKind → Option (List ℕ)
kind_named (kind.Other n) = None
kind_named x = Some (subpacket_kind_name x)

abbrev pub layer_named : Option Layer → Option (List ℕ)
layer_named (Some x) = Some (layer_name x)
layer_named None = None

abbrev pub reason_named : Option Reason → Option (List ℕ)
reason_named (Some x) = Some (reason_name x)
reason_named None = None

abbrev pub why_named : Option Why → Option (List ℕ)
why_named (Some x) = Some (why_text x)
why_named None = None

-- the reasons why a signature isn't hashed, of which the last is of documents alone
abbrev pub why_name : ℕ → Option (List ℕ)
why_name n = if n == document.why_number LineEnds then Some (document.why_text LineEnds)
    else why_named (why_of n)

-- the name that a table has for a number (RFC 9580, 5, 9.1, 9.5, 5.2.1, 5.2.3.7)
abbrev pub name_in : NumberTable → ℕ → Option (List ℕ)
name_in table.PacketTypes n = packet_named (packet_type_of n)
name_in table.KeyAlgorithms n = key_named (key_algorithm_of n)
name_in table.HashAlgorithms n = hash_named (hash_algorithm_of n)
name_in table.SignatureTypes n = signature_named (signature_type_of n)
name_in table.SubpacketKinds n = kind_named (subpacket_kind_of n)
name_in table.Layers n = layer_named (layer_of n)
name_in table.Reasons n = reason_named (reason_of n)
name_in table.Whys n = why_name n

-- the numbers of the tables
abbrev pub table_number : NumberTable → ℕ
table_number table.PacketTypes = 0
table_number table.KeyAlgorithms = 1
table_number table.HashAlgorithms = 2
table_number table.SignatureTypes = 3
table_number table.SubpacketKinds = 4
table_number table.Layers = 5
table_number table.Reasons = 6
table_number table.Whys = 7

unfoldable pub table_of : ℕ → Option NumberTable
table_of n =
    with_number table_number n
    (table.PacketTypes ∷ table.KeyAlgorithms ∷ table.HashAlgorithms ∷ table.SignatureTypes
    ∷ table.SubpacketKinds ∷ table.Layers ∷ table.Reasons ∷ table.Whys ∷ [])

-- The types of packets (RFC 9580, 5).
use Rattle.std.specs.Prelude.{ℕ, List, [], ◌∷◌, codes}
use Rattle.opgp_octets.specs.declared.packet_type.PacketType.{PacketType}
use Rattle.opgp_octets.specs.declared.packet_type.PacketType.TheVariants as packet
use Rattle.opgp_octets.specs.Rows.{numbered}

-- the number and the name of each
abbrev pub packet_type_row : PacketType → ℕ × List ℕ
packet_type_row packet.Reserved = (0, codes "Reserved")
packet_type_row packet.PublicKeyEncryptedSessionKey = (1, codes "Public Key Encrypted Session Key")
packet_type_row packet.Signature = (2, codes "Signature")
packet_type_row packet.SymmetricKeyEncryptedSessionKey =
    (3, codes "Symmetric Key Encrypted Session Key")
packet_type_row packet.OnePassSignature = (4, codes "One-Pass Signature")
packet_type_row packet.SecretKey = (5, codes "Secret Key")
packet_type_row packet.PublicKey = (6, codes "Public Key")
packet_type_row packet.SecretSubkey = (7, codes "Secret Subkey")
packet_type_row packet.CompressedData = (8, codes "Compressed Data")
packet_type_row packet.SymmetricallyEncryptedData = (9, codes "Symmetrically Encrypted Data")
packet_type_row packet.Marker = (10, codes "Marker")
packet_type_row packet.LiteralData = (11, codes "Literal Data")
packet_type_row packet.Trust = (12, codes "Trust")
packet_type_row packet.UserId = (13, codes "User ID")
packet_type_row packet.PublicSubkey = (14, codes "Public Subkey")
packet_type_row packet.UserAttribute = (17, codes "User Attribute")
packet_type_row packet.EncryptedIntegrityProtectedData =
    (18, codes "Symmetrically Encrypted and Integrity Protected Data")
packet_type_row packet.Padding = (21, codes "Padding")
packet_type_row (packet.Other n) = (n, codes "unknown")

abbrev pub packet_type_number : PacketType → ℕ
packet_type_number x = (packet_type_row x).0

unfoldable pub packet_type_name : PacketType → List ℕ
packet_type_name x = (packet_type_row x).1

-- what a number stands for
unfoldable pub packet_type_of : ℕ → PacketType
packet_type_of n =
    numbered packet_type_number n (packet.Other n)
    (packet.Reserved ∷ packet.PublicKeyEncryptedSessionKey ∷ packet.Signature
    ∷ packet.SymmetricKeyEncryptedSessionKey ∷ packet.OnePassSignature ∷ packet.SecretKey
    ∷ packet.PublicKey ∷ packet.SecretSubkey ∷ packet.CompressedData
    ∷ packet.SymmetricallyEncryptedData ∷ packet.Marker ∷ packet.LiteralData ∷ packet.Trust
    ∷ packet.UserId ∷ packet.PublicSubkey ∷ packet.UserAttribute
    ∷ packet.EncryptedIntegrityProtectedData ∷ packet.Padding ∷ [])

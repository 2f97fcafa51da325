-- The kinds of subpackets of a signature (RFC 9580, 5.2.3.7).
use Rattle.std.specs.Prelude.{ℕ, List, [], ◌∷◌, codes}
use Rattle.opgp_octets.specs.declared.subpacket_kind.SubpacketKind.{SubpacketKind}
use Rattle.opgp_octets.specs.declared.subpacket_kind.SubpacketKind.TheVariants as kind
use Rattle.opgp_octets.specs.Rows.{numbered}

-- the number and the name of each
abbrev pub subpacket_kind_row : SubpacketKind → ℕ × List ℕ
subpacket_kind_row kind.Created = (2, codes "Signature Creation Time")
subpacket_kind_row kind.Expires = (3, codes "Signature Expiration Time")
subpacket_kind_row kind.Exportable = (4, codes "Exportable Certification")
subpacket_kind_row kind.Trust = (5, codes "Trust Signature")
subpacket_kind_row kind.RegularExpression = (6, codes "Regular Expression")
subpacket_kind_row kind.Revocable = (7, codes "Revocable")
subpacket_kind_row kind.KeyExpires = (9, codes "Key Expiration Time")
subpacket_kind_row kind.PreferredSymmetric = (11, codes "Preferred Symmetric Ciphers for v1 SEIPD")
subpacket_kind_row kind.RevocationKey = (12, codes "Revocation Key")
subpacket_kind_row kind.Issuer = (16, codes "Issuer Key ID")
subpacket_kind_row kind.Notation = (20, codes "Notation Data")
subpacket_kind_row kind.PreferredHash = (21, codes "Preferred Hash Algorithms")
subpacket_kind_row kind.PreferredCompression = (22, codes "Preferred Compression Algorithms")
subpacket_kind_row kind.KeyServerPreferences = (23, codes "Key Server Preferences")
subpacket_kind_row kind.PreferredKeyServer = (24, codes "Preferred Key Server")
subpacket_kind_row kind.PrimaryUserId = (25, codes "Primary User ID")
subpacket_kind_row kind.PolicyUri = (26, codes "Policy URI")
subpacket_kind_row kind.KeyFlags = (27, codes "Key Flags")
subpacket_kind_row kind.SignersUserId = (28, codes "Signer's User ID")
subpacket_kind_row kind.RevocationReason = (29, codes "Reason for Revocation")
subpacket_kind_row kind.Features = (30, codes "Features")
subpacket_kind_row kind.SignatureTarget = (31, codes "Signature Target")
subpacket_kind_row kind.EmbeddedSignature = (32, codes "Embedded Signature")
subpacket_kind_row kind.IssuerFingerprint = (33, codes "Issuer Fingerprint")
subpacket_kind_row kind.IntendedRecipient = (35, codes "Intended Recipient Fingerprint")
subpacket_kind_row kind.PreferredAead = (39, codes "Preferred AEAD Ciphersuites")
subpacket_kind_row (kind.Other n) = (n, codes "unknown")

abbrev pub subpacket_kind_number : SubpacketKind → ℕ
subpacket_kind_number x = (subpacket_kind_row x).0

unfoldable pub subpacket_kind_name : SubpacketKind → List ℕ
subpacket_kind_name x = (subpacket_kind_row x).1

-- what a number stands for
unfoldable pub subpacket_kind_of : ℕ → SubpacketKind
subpacket_kind_of n =
    numbered subpacket_kind_number n (kind.Other n)
    (kind.Created ∷ kind.Expires ∷ kind.Exportable ∷ kind.Trust ∷ kind.RegularExpression
    ∷ kind.Revocable ∷ kind.KeyExpires ∷ kind.PreferredSymmetric ∷ kind.RevocationKey ∷ kind.Issuer
    ∷ kind.Notation ∷ kind.PreferredHash ∷ kind.PreferredCompression ∷ kind.KeyServerPreferences
    ∷ kind.PreferredKeyServer ∷ kind.PrimaryUserId ∷ kind.PolicyUri ∷ kind.KeyFlags
    ∷ kind.SignersUserId ∷ kind.RevocationReason ∷ kind.Features ∷ kind.SignatureTarget
    ∷ kind.EmbeddedSignature ∷ kind.IssuerFingerprint ∷ kind.IntendedRecipient ∷ kind.PreferredAead
    ∷ [])

-- The names of fields: the words of the standard in lower case, with hyphens.
use Rattle.std.specs.Prelude.{ℕ, List, codes}
use Rattle.opgp_octets.specs.declared.subpacket_kind.SubpacketKind.{SubpacketKind}
use Rattle.opgp_octets.specs.declared.subpacket_kind.SubpacketKind.TheVariants as kind
use Rattle.opgp_explain.specs.declared.meaning.Meaning.{Meaning}
use Rattle.opgp_explain.specs.declared.meaning.Meaning.TheVariants as meaning
use Rattle.opgp_explain.specs.declared.meaning.Role.TheVariants.{Primary, Subkey}
use Rattle.opgp_explain.specs.declared.meaning.KeyPart.{KeyPart}
use Rattle.opgp_explain.specs.declared.meaning.KeyPart.TheVariants as key
use Rattle.opgp_explain.specs.declared.meaning.BodyPart.{BodyPart}
use Rattle.opgp_explain.specs.declared.meaning.BodyPart.TheVariants as body
use Rattle.opgp_explain.specs.declared.meaning.SignaturePart.{SignaturePart}
use Rattle.opgp_explain.specs.declared.meaning.SignaturePart.TheVariants as signature
use Rattle.opgp_explain.specs.declared.meaning.SubpacketPart.{SubpacketPart}
use Rattle.opgp_explain.specs.declared.meaning.SubpacketPart.TheVariants as sub
use Rattle.opgp_explain.specs.declared.meaning.TrailerPart.{TrailerPart}
use Rattle.opgp_explain.specs.declared.meaning.TrailerPart.TheVariants as trailer

abbrev pub key_name : KeyPart → List ℕ
key_name key.Prefix = codes "primary-key-prefix"
key_name key.Length = codes "primary-key-length"
key_name key.Version = codes "primary-key-version"
key_name key.Created = codes "primary-key-creation-time"
key_name key.Algorithm = codes "primary-key-algorithm"
key_name key.MaterialLength = codes "primary-key-material-length"
key_name key.Material = codes "primary-key-material"

abbrev pub subkey_name : KeyPart → List ℕ
subkey_name key.Prefix = codes "subkey-prefix"
subkey_name key.Length = codes "subkey-length"
subkey_name key.Version = codes "subkey-version"
subkey_name key.Created = codes "subkey-creation-time"
subkey_name key.Algorithm = codes "subkey-algorithm"
subkey_name key.MaterialLength = codes "subkey-material-length"
subkey_name key.Material = codes "subkey-material"

abbrev pub user_id_name : BodyPart → List ℕ
user_id_name body.Prefix = codes "user-id-prefix"
user_id_name body.Length = codes "user-id-length"
user_id_name body.Body = codes "user-id"

abbrev pub attribute_name : BodyPart → List ℕ
attribute_name body.Prefix = codes "user-attribute-prefix"
attribute_name body.Length = codes "user-attribute-length"
attribute_name body.Body = codes "user-attribute"

abbrev pub signature_name : SignaturePart → List ℕ
signature_name signature.Version = codes "signature-version"
signature_name signature.Type = codes "signature-type"
signature_name signature.KeyAlgorithm = codes "key-algorithm"
signature_name signature.HashAlgorithm = codes "hash-algorithm"
signature_name signature.AreaLength = codes "hashed-area-length"

abbrev pub trailer_name : TrailerPart → List ℕ
trailer_name trailer.Version = codes "trailer-version"
trailer_name trailer.Marker = codes "trailer-marker"
trailer_name trailer.Length = codes "trailer-length"

abbrev pub data_name : SubpacketKind → List ℕ
data_name kind.Created = codes "signature-creation-time"
data_name kind.Expires = codes "signature-expiration-time"
data_name kind.Exportable = codes "exportable-certification"
data_name kind.Trust = codes "trust-signature"
data_name kind.RegularExpression = codes "regular-expression"
data_name kind.Revocable = codes "revocable"
data_name kind.KeyExpires = codes "key-expiration-time"
data_name kind.PreferredSymmetric = codes "preferred-symmetric-ciphers"
data_name kind.RevocationKey = codes "revocation-key"
data_name kind.Issuer = codes "issuer-key-id"
data_name kind.Notation = codes "notation-data"
data_name kind.PreferredHash = codes "preferred-hash-algorithms"
data_name kind.PreferredCompression = codes "preferred-compression-algorithms"
data_name kind.KeyServerPreferences = codes "key-server-preferences"
data_name kind.PreferredKeyServer = codes "preferred-key-server"
data_name kind.PrimaryUserId = codes "primary-user-id"
data_name kind.PolicyUri = codes "policy-uri"
data_name kind.KeyFlags = codes "key-flags"
data_name kind.SignersUserId = codes "signers-user-id"
data_name kind.RevocationReason = codes "reason-for-revocation"
data_name kind.Features = codes "features"
data_name kind.SignatureTarget = codes "signature-target"
data_name kind.EmbeddedSignature = codes "embedded-signature"
data_name kind.IssuerFingerprint = codes "issuer-fingerprint"
data_name kind.IntendedRecipient = codes "intended-recipient-fingerprint"
data_name kind.PreferredAead = codes "preferred-aead-ciphersuites"
data_name (kind.Other n) = codes "other-subpacket"

abbrev pub subpacket_name : SubpacketPart → List ℕ
subpacket_name sub.Length = codes "subpacket-length"
subpacket_name sub.Type = codes "subpacket-type"
subpacket_name (sub.Data kind) = data_name kind

abbrev pub meaning_name : Meaning → List ℕ
meaning_name meaning.Salt = codes "salt"
meaning_name (meaning.Key Primary part) = key_name part
meaning_name (meaning.Key Subkey part) = subkey_name part
meaning_name (meaning.UserId part) = user_id_name part
meaning_name (meaning.Attribute part) = attribute_name part
meaning_name meaning.Content = codes "content"
meaning_name (meaning.Signature part) = signature_name part
meaning_name (meaning.Subpacket part) = subpacket_name part
meaning_name meaning.Area = codes "hashed-area"
meaning_name (meaning.Trailer part) = trailer_name part

-- The section of RFC 9580 that says what a field is; of the data of a subpacket that of its kind.
use Rattle.std.specs.Prelude.{ℕ, List, codes}
use Rattle.opgp_octets.specs.declared.subpacket_kind.SubpacketKind.{SubpacketKind}
use Rattle.opgp_octets.specs.declared.subpacket_kind.SubpacketKind.TheVariants as kind
use Rattle.opgp_explain.specs.declared.meaning.Meaning.{Meaning}
use Rattle.opgp_explain.specs.declared.meaning.Meaning.TheVariants as meaning
use Rattle.opgp_explain.specs.declared.meaning.KeyPart.{KeyPart}
use Rattle.opgp_explain.specs.declared.meaning.KeyPart.TheVariants as key
use Rattle.opgp_explain.specs.declared.meaning.BodyPart.{BodyPart}
use Rattle.opgp_explain.specs.declared.meaning.BodyPart.TheVariants as body
use Rattle.opgp_explain.specs.declared.meaning.SignaturePart.{SignaturePart}
use Rattle.opgp_explain.specs.declared.meaning.SignaturePart.TheVariants as signature
use Rattle.opgp_explain.specs.declared.meaning.SubpacketPart.{SubpacketPart}
use Rattle.opgp_explain.specs.declared.meaning.SubpacketPart.TheVariants as sub

abbrev pub key_section : KeyPart → List ℕ
key_section key.Prefix = codes "5.2.4"
key_section key.Length = codes "5.2.4"
key_section key.Version = codes "5.5.2"
key_section key.Created = codes "5.5.2"
key_section key.Algorithm = codes "9.1"
key_section key.MaterialLength = codes "5.5.2.3"
key_section key.Material = codes "5.5.5"

abbrev pub user_id_section : BodyPart → List ℕ
user_id_section body.Prefix = codes "5.2.4"
user_id_section body.Length = codes "5.2.4"
user_id_section body.Body = codes "5.11"

abbrev pub attribute_section : BodyPart → List ℕ
attribute_section body.Prefix = codes "5.2.4"
attribute_section body.Length = codes "5.2.4"
attribute_section body.Body = codes "5.12"

abbrev pub signature_section : SignaturePart → List ℕ
signature_section signature.Version = codes "5.2.3"
signature_section signature.AreaLength = codes "5.2.3"
signature_section signature.Type = codes "5.2.1"
signature_section signature.KeyAlgorithm = codes "9.1"
signature_section signature.HashAlgorithm = codes "9.5"

abbrev pub data_section : SubpacketKind → List ℕ
data_section kind.Created = codes "5.2.3.11"
data_section kind.Issuer = codes "5.2.3.12"
data_section kind.KeyExpires = codes "5.2.3.13"
data_section kind.PreferredSymmetric = codes "5.2.3.14"
data_section kind.PreferredAead = codes "5.2.3.15"
data_section kind.PreferredHash = codes "5.2.3.16"
data_section kind.PreferredCompression = codes "5.2.3.17"
data_section kind.Expires = codes "5.2.3.18"
data_section kind.Exportable = codes "5.2.3.19"
data_section kind.Revocable = codes "5.2.3.20"
data_section kind.Trust = codes "5.2.3.21"
data_section kind.RegularExpression = codes "5.2.3.22"
data_section kind.RevocationKey = codes "5.2.3.23"
data_section kind.Notation = codes "5.2.3.24"
data_section kind.KeyServerPreferences = codes "5.2.3.25"
data_section kind.PreferredKeyServer = codes "5.2.3.26"
data_section kind.PrimaryUserId = codes "5.2.3.27"
data_section kind.PolicyUri = codes "5.2.3.28"
data_section kind.KeyFlags = codes "5.2.3.29"
data_section kind.SignersUserId = codes "5.2.3.30"
data_section kind.RevocationReason = codes "5.2.3.31"
data_section kind.Features = codes "5.2.3.32"
data_section kind.SignatureTarget = codes "5.2.3.33"
data_section kind.EmbeddedSignature = codes "5.2.3.34"
data_section kind.IssuerFingerprint = codes "5.2.3.35"
data_section kind.IntendedRecipient = codes "5.2.3.36"
data_section (kind.Other n) = codes "5.2.3.7"

abbrev pub subpacket_section : SubpacketPart → List ℕ
subpacket_section sub.Length = codes "5.2.3.7"
subpacket_section sub.Type = codes "5.2.3.7"
subpacket_section (sub.Data kind) = data_section kind

abbrev pub meaning_section : Meaning → List ℕ
meaning_section meaning.Salt = codes "5.2.4"
meaning_section (meaning.Key role part) = key_section part
meaning_section (meaning.UserId part) = user_id_section part
meaning_section (meaning.Attribute part) = attribute_section part
meaning_section meaning.Content = codes "5.2.4"
meaning_section (meaning.Signature part) = signature_section part
meaning_section (meaning.Subpacket part) = subpacket_section part
meaning_section meaning.Area = codes "5.2.3"
meaning_section (meaning.Trailer part) = codes "5.2.4"

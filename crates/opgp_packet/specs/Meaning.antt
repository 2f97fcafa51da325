-- The meaning of a signature's subpacket: its kind, and the fields of its data in the form of that
-- kind (RFC 9580, 5.2.3.11 to 5.2.3.36).
use Rattle.std.specs.Prelude.{◌≡◌, List, ℕ, Option, Some, None}
use Rattle.opgp_octets.specs.Octets.{IsOctets}
use Rattle.opgp_octets.specs.declared.subpacket_kind.SubpacketKind.{SubpacketKind}
use Rattle.opgp_octets.specs.declared.subpacket_kind.SubpacketKind.TheVariants as kind
use Rattle.opgp_packet.specs.Forms.{Form, Fields, IsOf}
use Rattle.opgp_packet.specs.Forms as form

-- the form of each kind's octets
abbrev pub form_of : SubpacketKind → Option Form
form_of kind.Created = Some form.number
form_of kind.Expires = Some form.number
form_of kind.Exportable = Some form.octet
form_of kind.Trust = Some form.two_octets
form_of kind.RegularExpression = Some form.ended_text
form_of kind.Revocable = Some form.octet
form_of kind.KeyExpires = Some form.number
form_of kind.PreferredSymmetric = Some form.octets
form_of kind.RevocationKey = Some form.revoker
form_of kind.Issuer = Some form.key_id
form_of kind.Notation = Some form.notation
form_of kind.PreferredHash = Some form.octets
form_of kind.PreferredCompression = Some form.octets
form_of kind.KeyServerPreferences = Some form.octets
form_of kind.PreferredKeyServer = Some form.octets
form_of kind.PrimaryUserId = Some form.octet
form_of kind.PolicyUri = Some form.octets
form_of kind.KeyFlags = Some form.octets
form_of kind.SignersUserId = Some form.octets
form_of kind.RevocationReason = Some form.code_and_text
form_of kind.Features = Some form.octets
form_of kind.SignatureTarget = Some form.target
form_of kind.EmbeddedSignature = Some form.signature
form_of kind.IssuerFingerprint = Some form.fingerprint
form_of kind.IntendedRecipient = Some form.fingerprint
form_of kind.PreferredAead = Some form.pairs
form_of (kind.Other n) = None

-- a meaning: the kind with its fields; or the data doesn't have the form of the kind; or the kind
-- has none
pub data Meaning : Type 0 where
  typed : SubpacketKind → (f : Form) → Fields f → Meaning
  unfit : Meaning
  unknown : Meaning

-- The data of this kind is that of the typed meaning.
abbrev pub Writes : SubpacketKind → List ℕ → Meaning → Type 0
Writes k o (typed of f fields) = (k ≡ of) × (form_of k ≡ Some f) × IsOf f o fields
Writes k o unfit = ⊥
Writes k o unknown = ⊥

-- the kinds that have a form
abbrev pub IsListed : SubpacketKind → Type 0
IsListed (kind.Other n) = ⊥
IsListed k = Unit {0}

-- The meaning of data of this kind: the typed meaning that encodes to it, or that there is none, or
-- that the kind has no form.
abbrev pub Means : SubpacketKind → List ℕ → Meaning → Type 0
Means k o unfit = IsOctets o × IsListed k × ((m : Meaning) → Writes k o m → ⊥)
Means k o unknown = IsOctets o × (IsListed k → ⊥)
Means k o m = IsOctets o × Writes k o m

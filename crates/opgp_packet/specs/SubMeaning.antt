-- The value of a meaning over borrowed octets.
use Rattle.opgp_octets.specs.declared.subpacket_kind.SubpacketKind.TheVariants as kind
use Rattle.opgp_packet.specs.Meaning.{Meaning, typed, unfit, unknown}
use Rattle.opgp_packet.specs.Forms as form
use Rattle.opgp_packet.specs.declared.sub_meaning.SubMeaning.{SubMeaning}
use Rattle.opgp_packet.specs.declared.sub_meaning.SubMeaning.TheVariants as sub

abbrev pub meaning_shown : SubMeaning → Meaning
meaning_shown (sub.Created n) = typed kind.Created form.number n
meaning_shown (sub.Expires n) = typed kind.Expires form.number n
meaning_shown (sub.Exportable n) = typed kind.Exportable form.octet n
meaning_shown (sub.Trust level amount) = typed kind.Trust form.two_octets (level, amount)
meaning_shown (sub.RegularExpression text) = typed kind.RegularExpression form.ended_text text.now
meaning_shown (sub.Revocable n) = typed kind.Revocable form.octet n
meaning_shown (sub.KeyExpires n) = typed kind.KeyExpires form.number n
meaning_shown (sub.PreferredSymmetric list) = typed kind.PreferredSymmetric form.octets list.now
meaning_shown (sub.RevocationKey class algorithm fingerprint) =
    typed kind.RevocationKey form.revoker (class, algorithm, fingerprint.now)
meaning_shown (sub.Issuer id) = typed kind.Issuer form.key_id id
meaning_shown (sub.Notation flags name value) =
    typed kind.Notation form.notation (flags, name.now, value.now)
meaning_shown (sub.PreferredHash list) = typed kind.PreferredHash form.octets list.now
meaning_shown (sub.PreferredCompression list) = typed kind.PreferredCompression form.octets list.now
meaning_shown (sub.KeyServerPreferences flags) =
    typed kind.KeyServerPreferences form.octets flags.now
meaning_shown (sub.PreferredKeyServer text) = typed kind.PreferredKeyServer form.octets text.now
meaning_shown (sub.PrimaryUserId n) = typed kind.PrimaryUserId form.octet n
meaning_shown (sub.PolicyUri text) = typed kind.PolicyUri form.octets text.now
meaning_shown (sub.KeyFlags flags) = typed kind.KeyFlags form.octets flags.now
meaning_shown (sub.SignersUserId text) = typed kind.SignersUserId form.octets text.now
meaning_shown (sub.RevocationReason code text) =
    typed kind.RevocationReason form.code_and_text (code, text.now)
meaning_shown (sub.Features flags) = typed kind.Features form.octets flags.now
meaning_shown (sub.SignatureTarget algorithm hash digest) =
    typed kind.SignatureTarget form.target (algorithm, hash, digest.now)
meaning_shown (sub.EmbeddedSignature body) = typed kind.EmbeddedSignature form.signature body.now
meaning_shown (sub.IssuerFingerprint version fingerprint) =
    typed kind.IssuerFingerprint form.fingerprint (version, fingerprint.now)
meaning_shown (sub.IntendedRecipient version fingerprint) =
    typed kind.IntendedRecipient form.fingerprint (version, fingerprint.now)
meaning_shown (sub.PreferredAead pairs) = typed kind.PreferredAead form.pairs pairs.now
meaning_shown sub.Unfit = unfit
meaning_shown sub.Unknown = unknown

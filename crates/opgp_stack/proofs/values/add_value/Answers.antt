use Rattle.std.proofs.Common.{ap}
use Rattle.opgp_packet.specs.SubMeaning.{meaning_shown}
use Rattle.opgp_packet.specs.declared.sub_meaning.SubMeaning.{SubMeaning}
use Rattle.opgp_io.proofs.Extended.{extends_same}
use Rattle.opgp_stack.specs.Values.{value_line}
use Rattle.opgp_stack.proofs.OtherValues.{octets_alone}
use Rattle.opgp_stack.proofs.values.add_value.Goals as goal

pub returns-in-RevocationKey : goal.returns-in-RevocationKey
returns-in-RevocationKey g c = extends_same (ap (λ (m : SubMeaning). value_line (meaning_shown m) c.args.octets.now) c.in-RevocationKey.is) c.add_pair_digits.ensures

pub returns-in-PrimaryUserId : goal.returns-in-PrimaryUserId
returns-in-PrimaryUserId g c = extends_same (ap (λ (m : SubMeaning). value_line (meaning_shown m) c.args.octets.now) c.in-PrimaryUserId.is) c.add_number-in-PrimaryUserId.ensures

pub returns-in-IssuerFingerprint : goal.returns-in-IssuerFingerprint
returns-in-IssuerFingerprint g c = extends_same (ap (λ (m : SubMeaning). value_line (meaning_shown m) c.args.octets.now) c.in-IssuerFingerprint.is) c.add_print.ensures

pub returns-in_default : goal.returns-in_default
returns-in_default g c = let no = c.in_default in extends_same (octets_alone c.args.meaning c.args.octets.now no.not-Created no.not-Expires no.not-Exportable no.not-Trust no.not-RegularExpression no.not-Revocable no.not-KeyExpires no.not-PreferredSymmetric no.not-RevocationKey no.not-Issuer no.not-Notation no.not-PreferredHash no.not-PreferredCompression no.not-KeyServerPreferences no.not-PreferredKeyServer no.not-PrimaryUserId no.not-PolicyUri no.not-KeyFlags no.not-SignersUserId no.not-RevocationReason no.not-Features no.not-SignatureTarget no.not-EmbeddedSignature no.not-IssuerFingerprint no.not-IntendedRecipient no.not-PreferredAead) c.add_digits-in_default.ensures

pub returns-in-Exportable : goal.returns-in-Exportable
returns-in-Exportable g c = rw c.in-Exportable.is c.add_number-in-Exportable.ensures

pub returns-in-Trust : goal.returns-in-Trust
returns-in-Trust g c = rw c.in-Trust.is c.add_pair.ensures

pub returns-in-RegularExpression : goal.returns-in-RegularExpression
returns-in-RegularExpression g c = rw c.in-RegularExpression.is c.add_text.ensures

pub returns-in-Revocable : goal.returns-in-Revocable
returns-in-Revocable g c = rw c.in-Revocable.is c.add_number-in-Revocable.ensures

pub returns-in-KeyExpires : goal.returns-in-KeyExpires
returns-in-KeyExpires g c = rw c.in-KeyExpires.is c.add_number-in-KeyExpires.ensures

pub returns-in-PreferredSymmetric : goal.returns-in-PreferredSymmetric
returns-in-PreferredSymmetric g c = rw c.in-PreferredSymmetric.is c.add_numbers.ensures

pub returns-in-Notation : goal.returns-in-Notation
returns-in-Notation g c = rw c.in-Notation.is c.add_notation.ensures

pub returns-in-PreferredHash : goal.returns-in-PreferredHash
returns-in-PreferredHash g c = rw c.in-PreferredHash.is c.add_numbers-in-PreferredHash.ensures

pub returns-in-PreferredCompression : goal.returns-in-PreferredCompression
returns-in-PreferredCompression g c = rw c.in-PreferredCompression.is c.add_numbers-in-PreferredCompression.ensures

pub returns-in-KeyServerPreferences : goal.returns-in-KeyServerPreferences
returns-in-KeyServerPreferences g c = rw c.in-KeyServerPreferences.is (rw c.key_server_preferences.ensures at c.add_flags.ensures)

pub returns-in-PreferredKeyServer : goal.returns-in-PreferredKeyServer
returns-in-PreferredKeyServer g c = rw c.in-PreferredKeyServer.is c.add_text-in-PreferredKeyServer.ensures

pub returns-in-PolicyUri : goal.returns-in-PolicyUri
returns-in-PolicyUri g c = rw c.in-PolicyUri.is c.add_text-in-PolicyUri.ensures

pub returns-in-KeyFlags : goal.returns-in-KeyFlags
returns-in-KeyFlags g c = rw c.in-KeyFlags.is (rw c.key_flags.ensures at c.add_flags-in-KeyFlags.ensures)

pub returns-in-SignersUserId : goal.returns-in-SignersUserId
returns-in-SignersUserId g c = rw c.in-SignersUserId.is c.add_text-in-SignersUserId.ensures

pub returns-in-RevocationReason : goal.returns-in-RevocationReason
returns-in-RevocationReason g c = rw c.in-RevocationReason.is c.add_reason.ensures

pub returns-in-Features : goal.returns-in-Features
returns-in-Features g c = rw c.in-Features.is (rw c.features.ensures at c.add_flags-in-Features.ensures)

pub returns-in-SignatureTarget : goal.returns-in-SignatureTarget
returns-in-SignatureTarget g c = rw c.in-SignatureTarget.is c.add_pair_digits-in-SignatureTarget.ensures

pub returns-in-IntendedRecipient : goal.returns-in-IntendedRecipient
returns-in-IntendedRecipient g c = rw c.in-IntendedRecipient.is c.add_print-in-IntendedRecipient.ensures

pub returns-in-PreferredAead : goal.returns-in-PreferredAead
returns-in-PreferredAead g c = rw c.in-PreferredAead.is c.add_numbers-in-PreferredAead.ensures

-- Whether a key of a keyring is believed, by the verdicts on the rows of the keyring's report.
use Rattle.std.specs.Prelude.{ℕ, List, take, drop, length, Option, Some, None, slice_get}
use Rattle.std.specs.Prelude.{if◌then◌else◌}
use Rattle.std.specs.List.{flat_map}
use Rattle.opgp_octets.specs.declared.packet_type.PacketType.TheVariants as packet
use Rattle.opgp_frame.specs.Header.{is_type}
use Rattle.opgp_keyring.specs.Keyring.{CertificateValue, ComponentValue, KeyringValue}
use Rattle.opgp_report.specs.Standing.{Standing, certificate_standing}
use Rattle.opgp_report.specs.declared.verifier.Verdict.{Verdict}
use Rattle.opgp_valid.specs.Facts.{FactsValue}
use Rattle.opgp_valid.specs.KnownKeys.{known_in}
use Rattle.opgp_valid.specs.Policy.{created_of, version_of}
use Rattle.opgp_valid.specs.Cause.{cause_of}
use Rattle.opgp_valid.specs.Told.{statements_of}
use Rattle.opgp_valid.specs.declared.cause.Cause.{Cause}
use Rattle.opgp_valid.specs.declared.certified.Certified.{Certified}
use Rattle.opgp_valid.specs.declared.facts.Key.{Key}
use Rattle.opgp_valid.specs.declared.facts.Key.TheVariants as key
use Rattle.opgp_valid.specs.declared.judgement.Judgement.{Judgement}
use Rattle.opgp_valid.specs.declared.judgement.KeyPlace.{KeyPlace}
use Rattle.opgp_valid.specs.declared.judgement.Judgement.TheVariants.{Stands, Fails, NoKey}
use Rattle.opgp_valid.specs.declared.known_keys.Known.{Known}
use Rattle.opgp_valid.specs.declared.policy.Policy.{Policy}

-- ---- what a certificate's signatures say
abbrev pub facts_by : List Known → Policy → CertificateValue → List Verdict → FactsValue
facts_by known policy c founds = record {
  version = version_of c.primary.body;
  created = created_of c.primary.body;
  statements = statements_of known policy c founds;
}

abbrev pub certified_facts : Certified → FactsValue
certified_facts c = record {
  version = c.version;
  created = c.created;
  statements = c.statements.items;
}

-- ---- which verdicts
-- the rows of certificates, and the verdicts on those of the certificate of this number and of the
-- ones behind it
abbrev pub rows_in : List CertificateValue → List Standing
rows_in cs = flat_map (certificate_standing 0) cs

abbrev pub verdicts_from : List CertificateValue → ℕ → List Verdict → List Verdict
verdicts_from cs n founds = drop (length (rows_in (take n cs))) founds

-- ---- which key
-- a component as a key, if it is a subkey
abbrev pub subkey_at : ℕ → Option ComponentValue → Option Key
subkey_at n None = None
subkey_at n (Some c) = if is_type packet.PublicSubkey c.head.kind
    then Some (key.Subkey n (created_of c.head.body)) else None

abbrev pub key_at : CertificateValue → Option ℕ → Option Key
key_at c None = Some key.Primary
key_at c (Some n) = subkey_at n (slice_get c.components n)

-- ---- the judgement
abbrev pub judged : Option Cause → Judgement
judged None = Stands
judged (Some cause) = Fails cause

abbrev pub judged_key : KeyringValue → Policy → List Verdict → CertificateValue → ℕ → ℕ
    → Option Key → Judgement
judged_key r policy founds c made now None = NoKey
judged_key r policy founds c made now (Some k) =
    judged (cause_of (facts_by (known_in r) policy c founds) k made now)

abbrev pub judged_in : KeyringValue → Policy → List Verdict → KeyPlace → ℕ → ℕ
    → Option CertificateValue → Judgement
judged_in r policy founds at made now None = NoKey
judged_in r policy founds at made now (Some c) =
    judged_key r policy (verdicts_from r.certificates at.certificate founds) c made now
    (key_at c at.component)

-- of the key at a place
abbrev pub judgement_of : KeyringValue → Policy → List Verdict → KeyPlace → ℕ → ℕ → Judgement
judgement_of r policy founds at made now =
    judged_in r policy founds at made now (slice_get r.certificates at.certificate)

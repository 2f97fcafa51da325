-- What the laws speak of.
use Rattle.std.specs.Prelude.{◌≡◌, ℕ, Bool, true, false, not, ◌&&◌, ◌||◌, if◌then◌else◌, List, map}
use Rattle.std.specs.Prelude.{Ok, Err, Result, is_none}
use Rattle.std.specs.List.{Contains}
use Rattle.std.specs.Option.{IsSome}
use Rattle.opgp_octets.specs.declared.fault.BodyFault.{BodyFault}
use Rattle.opgp_hash.specs.declared.fingerprints.Fingerprint.{Fingerprint}
use Rattle.opgp_packet.specs.SignatureBody.{SignatureValue, signature_at}
use Rattle.opgp_report.specs.First.{print_of}
use Rattle.opgp_report.specs.Standing.{Standing, certificate_standing}
use Rattle.opgp_report.specs.declared.verifier.Verdict.{Verdict}
use Rattle.opgp_report.specs.declared.verifier.Verdict.TheVariants.{Undecided}
use Rattle.opgp_keyring.specs.Keyring.{CertificateValue}
use Rattle.opgp_valid.specs.Facts.{FactsValue}
use Rattle.opgp_valid.specs.Group.{certifies}
use Rattle.opgp_valid.specs.KnownKeys.{issuer_among}
use Rattle.opgp_valid.specs.State.{revokes_certification}
use Rattle.opgp_valid.specs.Told.{is_good_verdict, is_print, type_in, with_verdicts}
use Rattle.opgp_valid.specs.declared.known_keys.Known.{Known}
use Rattle.opgp_valid.specs.declared.statement.Statement.{Statement}

-- each statement of the first list is also one of the second
abbrev pub IsAmong : List Statement → List Statement → Type 0
IsAmong a b = (s : Statement) → Contains a s → Contains b s

abbrev pub has_good_verdict : Standing × Verdict → Bool
has_good_verdict row = is_good_verdict row.1

-- a certificate of which this is said
abbrev pub with_statements : ℕ → ℕ → List Statement → FactsValue
with_statements version created ss =
    record { version = version; created = created; statements = ss }

-- ---- other certificates
-- a signature that is found good names one of these keys as its issuer's: without its key nobody
-- finds one good
abbrev pub IsByKnown : List Known → Standing × Verdict → Type 0
IsByKnown known x = is_good_verdict x.1 ≡ true → (v : SignatureValue)
    → signature_at x.0.body ≡ Ok v → IsSome (issuer_among known v)

-- ---- what other keys certify
-- a signature that certifies a user ID or user attribute, or revokes that (RFC 9580, 5.2.1.4 to
-- 5.2.1.7, 5.2.1.13), by another key than this one
abbrev pub is_others : List Known → Fingerprint → Result SignatureValue BodyFault → Bool
is_others known primary (Err fault) = false
is_others known primary (Ok v) = (certifies (type_in v) || revokes_certification (type_in v))
    && not (is_print primary (issuer_among known v))

-- nothing is decided of those
abbrev pub unless_others : List Known → Fingerprint → Standing × Verdict → Verdict
unless_others known primary x =
    if is_none x.0.place.nested && is_others known primary (signature_at x.0.body)
    then Undecided else x.1

-- the verdicts on a certificate's rows, where nothing is decided of what other keys certify
abbrev pub own_verdicts : List Known → CertificateValue → List Verdict → List Verdict
own_verdicts known c founds = map (unless_others known (print_of c.primary.body))
    (with_verdicts founds (certificate_standing 0 c))

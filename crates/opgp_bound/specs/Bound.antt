-- Certificates of which only bound components stay, and of self-signatures only genuine ones.
use Rattle.std.specs.Prelude.{Bool, true, false, ◌||◌, if◌then◌else◌}
use Rattle.std.specs.Prelude.{List, [], ◌∷◌, ◌++◌, map, drop}
use Rattle.std.specs.List.{filter, flat_map, list_any}
use Rattle.opgp_frame.specs.Packet.{PacketValue}
use Rattle.opgp_hash.specs.SubjectValue.{one}
use Rattle.opgp_hash.specs.declared.fingerprints.Fingerprint.{Fingerprint}
use Rattle.opgp_keyring.specs.Keyring.{CertificateValue, ComponentValue, KeyringValue}
use Rattle.opgp_report.specs.First.{print_of}
use Rattle.opgp_report.specs.declared.verifier.Verdict.{Verdict}
use Rattle.opgp_valid.specs.KnownKeys.{known_in}
use Rattle.opgp_valid.specs.declared.known_keys.Known.{Known}
use Rattle.opgp_bound.specs.Issuers.{revocation_issuers}
use Rattle.opgp_bound.specs.Judged.{JudgedComponentValue, JudgedValue, certificate_rows}
use Rattle.opgp_bound.specs.Judged.{judged_components, judged_hangs, rows_on}
use Rattle.opgp_bound.specs.declared.role.Role.{Role}
use Rattle.opgp_bound.specs.declared.role.Role.TheVariants.{SelfSignature, KeyRevocation, Other}

-- ---- the packets on a key or a component
abbrev pub is_genuine : Role → Bool
is_genuine (SelfSignature genuine) = genuine
is_genuine KeyRevocation = false
is_genuine Other = false

-- a genuine self-signature is among them
abbrev pub is_bound : List JudgedValue → Bool
is_bound js = list_any (λ j. is_genuine j.role) js

-- of the self-signatures those stay that are genuine, and everything else
abbrev pub role_stays : Role → Bool
role_stays (SelfSignature genuine) = genuine
role_stays KeyRevocation = true
role_stays Other = true

abbrev pub packets_of : List JudgedValue → List PacketValue
packets_of js = map (λ j. j.packet) js

abbrev pub kept : List JudgedValue → List PacketValue
kept js = packets_of (filter (λ j. role_stays j.role) js)

-- ---- components
-- it stays if a genuine self-signature is on it; or if its key made a good revocation, which nobody
-- could verify without it
abbrev pub component_stays : JudgedComponentValue → Bool
component_stays c = is_bound c.hangs || c.is_issuer

abbrev pub revokes : Role → Bool
revokes KeyRevocation = true
revokes (SelfSignature genuine) = false
revokes Other = false

-- the key revocations on a component that goes: they are over the primary key alone, wherever they
-- are (5.2.1.11, 5.2.4)
abbrev pub left_behind : JudgedComponentValue → List PacketValue
left_behind c =
    if component_stays c then [] else packets_of (filter (λ j. revokes j.role) c.hangs)

abbrev pub kept_component : JudgedComponentValue → ComponentValue
kept_component c = record { head = c.head; hangs = kept c.hangs }

abbrev pub kept_components : List JudgedComponentValue → List ComponentValue
kept_components cs = map kept_component (filter component_stays cs)

-- ---- certificates and keyrings (10.1)
-- the primary key stays, and behind what stays on it come the key revocations that are left behind
abbrev pub kept_certificate : PacketValue → List JudgedValue → List JudgedComponentValue
    → CertificateValue
kept_certificate primary hangs components = record {
  primary = primary;
  hangs = kept hangs ++ flat_map left_behind components;
  components = kept_components components;
}

-- the packets on the primary key of a certificate, by the verdicts from its first row on
abbrev pub own_in : List Known → CertificateValue → List Verdict → List JudgedValue
own_in known c founds =
    judged_hangs known (print_of c.primary.body) (one c.primary.body) c.hangs founds

module _ (known : List Known) (issuers : List Fingerprint) where
  -- its components
  abbrev pub components_in : CertificateValue → List Verdict → List JudgedComponentValue
  components_in c founds = judged_components known (print_of c.primary.body) issuers c.primary.body
      c.components (drop (rows_on (one c.primary.body) c.hangs) founds)

  -- of a certificate, by the verdicts from its first row on
  abbrev pub bound_certificate : CertificateValue → List Verdict → CertificateValue
  bound_certificate c founds = kept_certificate c.primary (own_in known c founds)
      (components_in c founds)

  abbrev pub bound_certificates : List CertificateValue → List Verdict → List CertificateValue
  bound_certificates [] founds = []
  bound_certificates (c ∷ cs) founds = bound_certificate c founds
      ∷ bound_certificates cs (drop (certificate_rows c) founds)

-- of a keyring, by the verdicts on the rows of its report; the lead stays
abbrev pub bound_keyring : KeyringValue → List Verdict → KeyringValue
bound_keyring r founds = record {
  lead = r.lead;
  certificates =
      bound_certificates (known_in r) (revocation_issuers r founds) r.certificates founds;
}

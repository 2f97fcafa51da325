-- Certificates of whose self-signatures those stay that are heard at a time.
use Rattle.std.specs.Prelude.{ℕ, ◌+◌, nat_lt, Bool, false, not, ◌&&◌, if◌then◌else◌, List, []}
use Rattle.std.specs.Prelude.{◌∷◌, ◌++◌, take, drop, Option, Some, None, is_some, Result, Ok, Err}
use Rattle.std.specs.List.{filter, list_any}
use Rattle.opgp_octets.specs.declared.fault.BodyFault.{BodyFault}
use Rattle.opgp_octets.specs.declared.signature_type.SignatureType.{SignatureType}
use Rattle.opgp_frame.specs.Packet.{PacketValue}
use Rattle.opgp_packet.specs.Areas.{hashed_subs}
use Rattle.opgp_packet.specs.SignatureBody.{SignatureValue, signature_at}
use Rattle.opgp_hash.specs.SubjectValue.{SubjectValue, one}
use Rattle.opgp_hash.specs.declared.fingerprints.Fingerprint.{Fingerprint}
use Rattle.opgp_keyring.specs.Keyring.{CertificateValue, ComponentValue, KeyringValue}
use Rattle.opgp_report.specs.First.{print_of}
use Rattle.opgp_report.specs.Standing.{is_signature, on_head}
use Rattle.opgp_report.specs.declared.verifier.Verdict.{Verdict}
use Rattle.opgp_valid.specs.Group.{binds, certifies, is_direct, is_primary}
use Rattle.opgp_valid.specs.KnownKeys.{known_in}
use Rattle.opgp_valid.specs.Speaking.{latest}
use Rattle.opgp_valid.specs.Statement.{is_alive, is_good}
use Rattle.opgp_valid.specs.Subpackets.{made_in, revoker_stated}
use Rattle.opgp_valid.specs.Told.{first_verdict, is_same_number, statements_of, type_in}
use Rattle.opgp_valid.specs.declared.known_keys.Known.{Known}
use Rattle.opgp_valid.specs.declared.policy.Policy.TheVariants.{Usual}
use Rattle.opgp_valid.specs.declared.statement.Statement.{Statement}
use Rattle.opgp_bound.specs.Bound.{is_genuine, packets_of}
use Rattle.opgp_bound.specs.Judged.{JudgedValue, certificate_rows, component_rows, judged}
use Rattle.opgp_bound.specs.Judged.{judged_hangs, rows_of, rows_on}

-- ---- what replaces a signature
-- What a signature says counts at a time: it is good, the primary key made it and hasn't revoked it
-- (RFC 9580, 5.2.1.13), nothing critical in it is unknown (5.2.3.7), and it was made by then and
-- hasn't expired (5.2.3.11, 5.2.3.18).
abbrev pub counts : ℕ → Statement → Bool
counts at s = is_good s && (not s.is_revoked
    && (s.is_understood && (is_primary s.author && is_alive at s)))

-- types of one sort: direct key signatures (5.2.1.10); certifications (5.2.1.4 to 5.2.1.7); or
-- subkey bindings (5.2.1.8)
abbrev pub is_same_sort : SignatureType → SignatureType → Bool
is_same_sort a b = if is_direct a then is_direct b
    else (if certifies a then certifies b else (binds a && binds b))

-- those that count at a time, of this sort, on the primary key or on the component of this number
abbrev pub is_rival : ℕ → Option ℕ → SignatureType → Statement → Bool
is_rival at component t s =
    counts at s && (is_same_number s.component component && is_same_sort t s.kind)

abbrev pub rivals : ℕ → List Statement → Option ℕ → SignatureType → List Statement
rivals at ss component t = filter (is_rival at component t) ss

-- when the newest of these was made
abbrev pub newest_made : ℕ → List Statement → Option ℕ → SignatureType → Option ℕ
newest_made at ss component t = latest (rivals at ss component t)

-- ---- what a newer one replaces
-- the first time is before the second, if there are both
abbrev pub is_before : Option ℕ → Option ℕ → Bool
is_before (Some a) (Some b) = nat_lt a b
is_before a b = false

-- it names a key that may revoke (5.2.3.23)
abbrev pub names_revoker : SignatureValue → Bool
names_revoker v = list_any (λ s. is_some (revoker_stated s)) (hashed_subs v)

-- by the times when the newest of each sort were made
module _ (newest : SignatureType → Option ℕ) where
  -- it states one time, and is older than the newest of its sort; but one that names a key which
  -- may revoke is never replaced
  abbrev pub is_replaced : SignatureValue → Bool
  is_replaced v = is_before (made_in (hashed_subs v)) (newest (type_in v)) && not (names_revoker v)

  abbrev pub replaced_read : Result SignatureValue BodyFault → Bool
  replaced_read (Err fault) = false
  replaced_read (Ok v) = is_replaced v

  abbrev pub replaced_in : PacketValue → Bool
  replaced_in p = is_signature p && replaced_read (signature_at p.body)

  -- all stays but genuine self-signatures that are replaced
  abbrev pub newest_stays : JudgedValue → Bool
  newest_stays j = not (is_genuine j.role && replaced_in j.packet)

  module _ (known : List Known) (primary : Fingerprint) where
    -- of the packets on a subject, by the verdicts from their first row on
    abbrev pub newest_hangs : SubjectValue → List PacketValue → List Verdict → List PacketValue
    newest_hangs subject ps founds =
        packets_of (filter newest_stays (judged_hangs known primary subject ps founds))

    -- the verdicts on the rows of those that stay
    abbrev pub newest_rows : SubjectValue → List PacketValue → List Verdict → List Verdict
    newest_rows subject [] founds = []
    newest_rows subject (p ∷ ps) founds =
        (if newest_stays (judged known primary subject (first_verdict founds) p)
        then take (rows_of subject p) founds else [])
        ++ newest_rows subject ps (drop (rows_of subject p) founds)

    -- of a component of the key of this body; it stays itself
    abbrev pub newest_component : List ℕ → ComponentValue → List Verdict → ComponentValue
    newest_component body c founds = record {
      head = c.head;
      hangs = newest_hangs (on_head body c.head) c.hangs founds;
    }

    abbrev pub newest_component_rows : List ℕ → ComponentValue → List Verdict → List Verdict
    newest_component_rows body c founds = newest_rows (on_head body c.head) c.hangs founds

-- ---- certificates and keyrings
-- what the signatures of a certificate say, by the usual policy and by the verdicts from its first
-- row on
abbrev pub said : List Known → CertificateValue → List Verdict → List Statement
said known c founds = statements_of known Usual c founds

module _ (at : ℕ) (known : List Known) where
  -- the components from this number on of a key of this body, of whose certificate this is said
  module _ (ss : List Statement) (body : List ℕ) where
    abbrev pub newest_components : ℕ → List ComponentValue → List Verdict → List ComponentValue
    newest_components n [] founds = []
    newest_components n (c ∷ cs) founds =
        newest_component (newest_made at ss (Some n)) known (print_of body) body c founds
        ∷ newest_components (n + 1) cs (drop (component_rows body c) founds)

    abbrev pub newest_components_rows : ℕ → List ComponentValue → List Verdict → List Verdict
    newest_components_rows n [] founds = []
    newest_components_rows n (c ∷ cs) founds =
        newest_component_rows (newest_made at ss (Some n)) known (print_of body) body c founds
        ++ newest_components_rows (n + 1) cs (drop (component_rows body c) founds)

  -- of a certificate, by the verdicts from its first row on
  abbrev pub newest_certificate : CertificateValue → List Verdict → CertificateValue
  newest_certificate c founds = record {
    primary = c.primary;
    hangs = newest_hangs (newest_made at (said known c founds) None) known (print_of c.primary.body)
        (one c.primary.body) c.hangs founds;
    components = newest_components (said known c founds) c.primary.body 0 c.components
        (drop (rows_on (one c.primary.body) c.hangs) founds);
  }

  abbrev pub certificate_verdicts : CertificateValue → List Verdict → List Verdict
  certificate_verdicts c founds =
      newest_rows (newest_made at (said known c founds) None) known (print_of c.primary.body)
      (one c.primary.body) c.hangs founds
      ++ newest_components_rows (said known c founds) c.primary.body 0 c.components
      (drop (rows_on (one c.primary.body) c.hangs) founds)

  abbrev pub newest_certificates : List CertificateValue → List Verdict → List CertificateValue
  newest_certificates [] founds = []
  newest_certificates (c ∷ cs) founds = newest_certificate c founds
      ∷ newest_certificates cs (drop (certificate_rows c) founds)

  abbrev pub certificates_verdicts : List CertificateValue → List Verdict → List Verdict
  certificates_verdicts [] founds = []
  certificates_verdicts (c ∷ cs) founds = certificate_verdicts c founds
      ++ certificates_verdicts cs (drop (certificate_rows c) founds)

-- of a keyring, by the verdicts on the rows of its report; the lead stays
abbrev pub newest_keyring : KeyringValue → List Verdict → ℕ → KeyringValue
newest_keyring r founds at = record {
  lead = r.lead;
  certificates = newest_certificates at (known_in r) r.certificates founds;
}

-- the verdicts on the rows of its report
abbrev pub newest_verdicts : KeyringValue → List Verdict → ℕ → List Verdict
newest_verdicts r founds at = certificates_verdicts at (known_in r) r.certificates founds

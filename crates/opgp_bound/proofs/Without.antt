-- What stays of a keyring without verdicts.
use Rattle.std.proofs.Common.{◌≡◌, ◌∙◌, ℕ, Bool, true, false, List, [], ◌∷◌, ◌++◌, drop, map, refl, ap, subst, sym, if◌then◌else◌, All, Option, Some, None, arith}
use Rattle.std.specs.Prelude.{◌&&◌, ◌||◌, Result, Ok, Err}
use Rattle.std.specs.List.{filter, flat_map}
use Rattle.std.proofs.lemmas.List.{drop_all}
use Rattle.std.proofs.lemmas.List.Elements.{All-cons, All-nil}
use Rattle.opgp_frame.specs.Header.{is_type}
use Rattle.opgp_frame.specs.Packet.{PacketValue}
use Rattle.opgp_octets.specs.SignatureType.{signature_type_of}
use Rattle.opgp_octets.specs.declared.fault.BodyFault.{BodyFault}
use Rattle.opgp_octets.specs.declared.packet_type.PacketType.TheVariants as packet
use Rattle.opgp_packet.specs.SignatureBody.{SignatureValue, signature_at}
use Rattle.opgp_hash.specs.SubjectValue.{SubjectValue, one}
use Rattle.opgp_hash.specs.declared.fingerprints.Fingerprint.{Fingerprint}
use Rattle.opgp_keyring.specs.Keyring.{CertificateValue, ComponentValue, KeyringValue}
use Rattle.opgp_report.specs.First.{print_of}
use Rattle.opgp_report.specs.Named.{named_of}
use Rattle.opgp_report.specs.Standing.{Standing, is_signature, on_head, standing_in}
use Rattle.opgp_report.specs.declared.verifier.Verdict.{Verdict}
use Rattle.opgp_report.specs.declared.verifier.Verdict.TheVariants.{Undecided}
use Rattle.opgp_valid.specs.KnownKeys.{known_in}
use Rattle.opgp_valid.specs.Told.{revokes_key, with_verdicts}
use Rattle.opgp_valid.specs.declared.known_keys.Known.{Known}
use Rattle.opgp_merge.specs.Chosen.{is_name_of}
use Rattle.opgp_bound.specs.Bound.{bound_certificate, bound_certificates, bound_keyring, component_stays, is_bound, is_genuine, kept_component, kept_components}
use Rattle.opgp_bound.specs.Issuers.{is_issuer, is_print_among, issuer_at, issuer_read, revocation_issuers}
use Rattle.opgp_bound.specs.Judged.{JudgedComponentValue, certificate_rows, component_rows, judged_component, judged_components, judged_hangs, rows_of, rows_on}
use Rattle.opgp_bound.specs.Role.{is_self_type, kind_in, role_of, role_read, role_typed}
use Rattle.opgp_bound.specs.declared.role.Role.TheVariants.{SelfSignature, KeyRevocation, Other}

abbrev no_verdicts : List Verdict
no_verdicts = []

none_behind : (n : ℕ) → drop n no_verdicts ≡ no_verdicts
none_behind n = drop_all n no_verdicts (omega arith)

-- ---- no key made a revocation
none_read : (known : List Known) (r : Result SignatureValue BodyFault) → issuer_read known Undecided r ≡ []
none_read known (Err fault) = refl
none_read known (Ok v) = refl

none_made : (known : List Known) (ss : List Standing) → flat_map (issuer_at known) (with_verdicts no_verdicts ss) ≡ []
none_made known [] = refl
none_made known (s ∷ ss) =
    ap (λ (l : List Fingerprint). l ++ flat_map (issuer_at known) (with_verdicts no_verdicts ss)) (none_read known (signature_at s.body)) ∙ none_made known ss

no_issuers : (r : KeyringValue) → revocation_issuers r no_verdicts ≡ []
no_issuers r = none_made (known_in r) (standing_in r)

no_issuer : (c : ComponentValue) → is_issuer [] c ≡ false
no_issuer c = go (is_type packet.PublicSubkey c.head.kind) where
  go : (b : Bool) → (b && is_print_among [] (print_of c.head.body)) ≡ false
  go true = refl
  go false = refl

-- ---- no self-signature is genuine
not_genuine : (own revokes : Bool) → is_genuine (if own then SelfSignature false else (if revokes then KeyRevocation else Other)) ≡ false
not_genuine true revokes = refl
not_genuine false true = refl
not_genuine false false = refl

module _ (known : List Known) (print : Fingerprint) where
  typed_not_genuine : (subject : SubjectValue) (v : SignatureValue) (kind : Option ℕ) → is_genuine (role_typed known print subject Undecided v kind) ≡ false
  typed_not_genuine subject v None = refl
  typed_not_genuine subject v (Some kind) = not_genuine (is_self_type (signature_type_of kind) && is_name_of (named_of v) print) (revokes_key (signature_type_of kind))

  read_not_genuine : (subject : SubjectValue) (r : Result SignatureValue BodyFault) → is_genuine (role_read known print subject Undecided r) ≡ false
  read_not_genuine subject (Err fault) = refl
  read_not_genuine subject (Ok v) = typed_not_genuine subject v (kind_in v)

  role_not_genuine : (subject : SubjectValue) (p : PacketValue) → is_genuine (role_of known print subject Undecided p) ≡ false
  role_not_genuine subject p = go (is_signature p) where
    go : (b : Bool) → is_genuine (if b then role_read known print subject Undecided (signature_at p.body) else Other) ≡ false
    go true = read_not_genuine subject (signature_at p.body)
    go false = refl

  none_among : (subject : SubjectValue) (ps : List PacketValue) → is_bound (judged_hangs known print subject ps []) ≡ false
  none_among subject [] = refl
  none_among subject (p ∷ ps) =
      ap (λ (b : Bool). b || is_bound (judged_hangs known print subject ps (drop (rows_of subject p) no_verdicts))) (role_not_genuine subject p)
      ∙ ap (λ (l : List Verdict). is_bound (judged_hangs known print subject ps l)) (none_behind (rows_of subject p))
      ∙ none_among subject ps

  goes : (body : List ℕ) (c : ComponentValue) → component_stays (judged_component known print [] body c []) ≡ false
  goes body c = ap (λ (b : Bool). b || is_issuer [] c) (none_among (on_head body c.head) c.hangs) ∙ no_issuer c

  none_kept : (body : List ℕ) (cs : List ComponentValue) → kept_components (judged_components known print [] body cs []) ≡ []
  none_kept body [] = refl
  none_kept body (c ∷ cs) = go (component_stays (judged_component known print [] body c [])) (goes body c) (none_kept body cs) where
    rest : List JudgedComponentValue
    rest = judged_components known print [] body cs (drop (component_rows body c) no_verdicts)

    go : (b : Bool) → b ≡ false → kept_components (judged_components known print [] body cs []) ≡ [] → map kept_component (if b then judged_component known print [] body c [] ∷ filter component_stays rest else filter component_stays rest) ≡ []
    go true e later = absurd (cc e)
    go false e later = ap (λ (l : List Verdict). kept_components (judged_components known print [] body cs l)) (none_behind (component_rows body c)) ∙ later

-- ---- no component stays
none_bound : (known : List Known) (c : CertificateValue) → (bound_certificate known [] c []).components ≡ []
none_bound known c =
    ap (λ (l : List Verdict). kept_components (judged_components known (print_of c.primary.body) [] c.primary.body c.components l)) (none_behind (rows_on (one c.primary.body) c.hangs))
    ∙ none_kept known (print_of c.primary.body) c.primary.body c.components

abbrev IsAlone : CertificateValue → Type 0
IsAlone c = c.components ≡ []

all_alone : (known : List Known) (cs : List CertificateValue) → All IsAlone (bound_certificates known [] cs [])
all_alone known [] = All-nil IsAlone
all_alone known (c ∷ cs) =
    let P : List Verdict → Type 0 = λ l. All IsAlone (bound_certificates known [] cs l) in
    All-cons IsAlone (bound_certificate known [] c []) (bound_certificates known [] cs (drop (certificate_rows c) no_verdicts)) (none_bound known c) (subst P (sym (none_behind (certificate_rows c))) (all_alone known cs))

pub keyring_alone : (r : KeyringValue) → All (λ c. c.components ≡ []) (bound_keyring r []).certificates
keyring_alone r =
    let P : List Fingerprint → Type 0 = λ l. All IsAlone (bound_certificates (known_in r) l r.certificates []) in
    subst P (sym (no_issuers r)) (all_alone (known_in r) r.certificates)

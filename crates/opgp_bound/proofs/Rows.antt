-- How many rows the packets of a certificate have in a report; and what follows of what is bound.
use Rattle.std.proofs.Common.{◌≡◌, ◌∙◌, ℕ, suc, ◌+◌, Bool, true, false, List, [], ◌∷◌, length, drop, refl, ap, if◌then◌else◌, length-append, All, Option, None, arith}
use Rattle.std.proofs.lemmas.List.Elements.{All-cons, All-head, All-nil, All-tail}
use Rattle.opgp_frame.specs.Packet.{PacketValue}
use Rattle.opgp_packet.specs.SignatureBody.{signature_at}
use Rattle.opgp_hash.specs.SubjectValue.{SubjectValue, one}
use Rattle.opgp_hash.specs.declared.fingerprints.Fingerprint.{Fingerprint}
use Rattle.opgp_keyring.specs.Keyring.{CertificateValue, ComponentValue, IsCertificate, IsKeyring, KeyringValue}
use Rattle.opgp_report.specs.First.{print_of}
use Rattle.opgp_report.specs.Standing.{bodies_within, by_number, certificate_standing, component_standing, hang_standing, hung_at, is_signature, nested_standing, on_head, signature_standing}
use Rattle.opgp_report.specs.declared.place.Place.{Place}
use Rattle.opgp_report.specs.declared.verifier.Verdict.{Verdict}
use Rattle.opgp_valid.specs.KnownKeys.{known_in}
use Rattle.opgp_valid.specs.declared.known_keys.Known.{Known}
use Rattle.opgp_bound.specs.Bound.{bound_certificate, bound_certificates, bound_keyring, components_in, own_in}
use Rattle.opgp_bound.specs.Issuers.{revocation_issuers}
use Rattle.opgp_bound.specs.Judged.{certificate_rows, component_rows, components_rows, rows_of, rows_on}
use Rattle.opgp_bound.proofs.Found.{components_stand, hangs_hung}
use Rattle.opgp_bound.proofs.Kept.{certificate_is}

-- ---- rows
nested_counted : (place : Place) (subject : SubjectValue) (n : ℕ) (bodies : List (List ℕ)) → length (by_number (nested_standing place subject) n bodies) ≡ length bodies
nested_counted place subject n [] = refl
nested_counted place subject n (b ∷ bodies) = ap suc (nested_counted place subject (n + 1) bodies)

pub hang_counted : (certificate : ℕ) (component : Option ℕ) (subject : SubjectValue) (n : ℕ) (p : PacketValue) → length (hang_standing certificate component subject n p) ≡ rows_of subject p
hang_counted certificate component subject n p = go (is_signature p) where
  go : (b : Bool) → length (if b then signature_standing (hung_at certificate component n) subject p.body else []) ≡ (if b then 1 + length (bodies_within subject (signature_at p.body)) else 0)
  go true = omega (arith, nested_counted (hung_at certificate component n) subject 0 (bodies_within subject (signature_at p.body)))
  go false = refl

pub hangs_counted : (certificate : ℕ) (component : Option ℕ) (subject : SubjectValue) (n : ℕ) (ps : List PacketValue) → length (by_number (hang_standing certificate component subject) n ps) ≡ rows_on subject ps
hangs_counted certificate component subject n [] = refl
hangs_counted certificate component subject n (p ∷ ps) =
    length-append (hang_standing certificate component subject n p) (by_number (hang_standing certificate component subject) (n + 1) ps)
    ∙ ap (λ k. k + length (by_number (hang_standing certificate component subject) (n + 1) ps)) (hang_counted certificate component subject n p)
    ∙ ap (λ k. rows_of subject p + k) (hangs_counted certificate component subject (n + 1) ps)

components_counted : (body : List ℕ) (certificate n : ℕ) (cs : List ComponentValue) → length (by_number (component_standing body certificate) n cs) ≡ components_rows body cs
components_counted body certificate n [] = refl
components_counted body certificate n (c ∷ cs) =
    length-append (component_standing body certificate n c) (by_number (component_standing body certificate) (n + 1) cs)
    ∙ ap (λ k. k + length (by_number (component_standing body certificate) (n + 1) cs)) (hangs_counted certificate _ (on_head body c.head) 0 c.hangs)
    ∙ ap (λ k. component_rows body c + k) (components_counted body certificate (n + 1) cs)

pub certificate_counted : (n : ℕ) (c : CertificateValue) → length (certificate_standing n c) ≡ certificate_rows c
certificate_counted n c =
    length-append (by_number (hang_standing n None (one c.primary.body)) 0 c.hangs) (by_number (component_standing c.primary.body n) 0 c.components)
    ∙ ap (λ k. k + length (by_number (component_standing c.primary.body n) 0 c.components)) (hangs_counted n None (one c.primary.body) 0 c.hangs)
    ∙ ap (λ k. rows_on (one c.primary.body) c.hangs + k) (components_counted c.primary.body n 0 c.components)

-- ---- keyrings
bound_is_certificate : (known : List Known) (issuers : List Fingerprint) (c : CertificateValue) (founds : List Verdict) → IsCertificate c → IsCertificate (bound_certificate known issuers c founds)
bound_is_certificate known issuers c founds h =
    certificate_is c.primary (own_in known c founds) (components_in known issuers c founds) h.primary
    (hangs_hung known (print_of c.primary.body) (one c.primary.body) c.hangs founds h.hangs)
    (components_stand known (print_of c.primary.body) issuers c.primary.body c.components (drop (rows_on (one c.primary.body) c.hangs) founds) h.components)

all_bound : (known : List Known) (issuers : List Fingerprint) (cs : List CertificateValue) (founds : List Verdict) → All IsCertificate cs → All IsCertificate (bound_certificates known issuers cs founds)
all_bound known issuers [] founds h = All-nil IsCertificate
all_bound known issuers (c ∷ cs) founds h =
    All-cons IsCertificate (bound_certificate known issuers c founds) (bound_certificates known issuers cs (drop (certificate_rows c) founds))
    (bound_is_certificate known issuers c founds (All-head IsCertificate c cs h)) (all_bound known issuers cs (drop (certificate_rows c) founds) (All-tail IsCertificate c cs h))

pub bound_is_keyring : (r : KeyringValue) (founds : List Verdict) → IsKeyring r → IsKeyring (bound_keyring r founds)
bound_is_keyring r founds h = record { lead = h.lead; certificates = all_bound (known_in r) (revocation_issuers r founds) r.certificates founds h.certificates }

-- Rewritten keyrings ask what they asked, and have the report that they had.
use Rattle.std.proofs.Common.{◌≡◌, ◌∙◌, ℕ, List, [], ◌∷◌, ◌++◌, map, Option, Some, None, refl, sym, ap, append-nil, slice_get}
use Rattle.std.specs.List.{flat_map}
use Rattle.std.specs.Option.{option_map}
use Rattle.opgp_frame.specs.Reframed.{reframed}
use Rattle.opgp_hash.specs.SubjectValue.{one}
use Rattle.opgp_keyring.specs.Joining.{nth_of}
use Rattle.opgp_keyring.specs.Keyring.{CertificateValue, ComponentValue, KeyringValue}
use Rattle.opgp_keyring.specs.Normal.{normal_certificate, normal_component, normal_of}
use Rattle.opgp_report.specs.Asked.{asked_by, asked_of}
use Rattle.opgp_report.specs.Report.{Says, certificate_keys, keys_in, report_of, row_of, subkey_bodies}
use Rattle.opgp_report.specs.Standing.{Standing, by_number, certificate_standing, component_standing, hang_standing, hangs_standing, on_head, standing_in}
use Rattle.opgp_report.proofs.Asking.{certificate_asks}
use Rattle.opgp_report.proofs.Numbered.{of_changed}

-- ---- in the current format
certificate : (n : ℕ) (c : CertificateValue) → certificate_standing n (normal_certificate c) ≡ certificate_standing n c
certificate n c =
    let primary : List ℕ = c.primary.body in
    ap (λ (l : List Standing). l ++ by_number (component_standing primary n) 0 (map normal_component c.components)) (of_changed (hang_standing n None (one primary)) reframed (λ m p. refl) 0 c.hangs)
    ∙ ap (λ (l : List Standing). hangs_standing n None (one primary) c.hangs ++ l)
    (of_changed (component_standing primary n) normal_component (λ m k. of_changed (hang_standing n (Some m) (on_head primary k.head)) reframed (λ i p. refl) 0 k.hangs) 0 c.components)

normal_standing : (r : KeyringValue) → standing_in (normal_of r) ≡ standing_in r
normal_standing r = of_changed certificate_standing normal_certificate certificate 0 r.certificates

subkeys : (cs : List ComponentValue) → flat_map subkey_bodies (map normal_component cs) ≡ flat_map subkey_bodies cs
subkeys [] = refl
subkeys (c ∷ cs) = ap (λ (l : List (List ℕ)). subkey_bodies c ++ l) (subkeys cs)

keys : (cs : List CertificateValue) → flat_map certificate_keys (map normal_certificate cs) ≡ flat_map certificate_keys cs
keys [] = refl
keys (c ∷ cs) =
    ap (λ (l : List (List ℕ)). (c.primary.body ∷ l) ++ flat_map certificate_keys (map normal_certificate cs)) (subkeys c.components)
    ∙ ap (λ (l : List (List ℕ)). certificate_keys c ++ l) (keys cs)

pub normal_asks : (r : KeyringValue) → asked_of (normal_of r) ≡ asked_of r
normal_asks r = ap (λ (l : List Standing). map asked_by l) (normal_standing r)

pub normal_keys : (r : KeyringValue) → keys_in (normal_of r) ≡ keys_in r
normal_keys r = keys r.certificates

pub normal_rows : (says : Says) (r : KeyringValue) → report_of says (normal_of r) ≡ report_of says r
normal_rows says r = ap (λ (l : List (List ℕ)). map (row_of says l) (standing_in (normal_of r))) (normal_keys r)
    ∙ ap (λ (l : List Standing). map (row_of says (keys_in r)) l) (normal_standing r)

-- ---- one certificate
alone : CertificateValue → KeyringValue
alone c = record { lead = []; certificates = c ∷ [] }

by_option : (o : Option CertificateValue) (c : CertificateValue) (s : KeyringValue) → o ≡ Some c → option_map (λ c. record { lead = []; certificates = c ∷ [] }) o ≡ Some s → s ≡ alone c
unfolding alone
by_option (Some d) c s e f = cc
by_option None c s e f = cc

one_is : (r s : KeyringValue) (c : CertificateValue) (n : ℕ) → slice_get r.certificates n ≡ Some c → nth_of r n ≡ Some s → s ≡ alone c
one_is r s c n e f = by_option (slice_get r.certificates n) c s e f

pub one_asks : (r s : KeyringValue) (c : CertificateValue) (n : ℕ) → slice_get r.certificates n ≡ Some c → nth_of r n ≡ Some s → asked_of s ≡ map asked_by (certificate_standing n c)
unfolding alone
one_asks r s c n e f =
    ap asked_of (one_is r s c n e f) ∙ ap (λ (l : List Standing). map asked_by l) (append-nil (certificate_standing 0 c)) ∙ certificate_asks 0 c ∙ sym (certificate_asks n c)

pub one_keys : (r s : KeyringValue) (c : CertificateValue) (n : ℕ) → slice_get r.certificates n ≡ Some c → nth_of r n ≡ Some s → keys_in s ≡ certificate_keys c
unfolding alone
one_keys r s c n e f = ap keys_in (one_is r s c n e f) ∙ append-nil (certificate_keys c)

-- What is bound of a certificate by what a verifier says of its signatures.
use Rattle.std.proofs.Common.{◌≡◌, ◌∙◌, ◌+◌, ℕ, zero, suc, Bool, true, false, List, [], ◌∷◌, ◌++◌, drop, map, Option, Some, None, refl, sym, ap, if◌then◌else◌, slice_get, append_assoc, append-nil}
use Rattle.std.proofs.lemmas.List.{drop_at, length-map, map-append}
use Rattle.std.proofs.lemmas.Option.{same_Some}
use Rattle.opgp_frame.specs.Packet.{PacketValue}
use Rattle.opgp_packet.specs.SignatureBody.{signature_at}
use Rattle.opgp_hash.specs.SubjectValue.{SubjectValue, one}
use Rattle.opgp_hash.specs.declared.fingerprints.Fingerprint.{Fingerprint}
use Rattle.opgp_hash.specs.declared.site.Site.TheVariants.{Hung}
use Rattle.opgp_keyring.specs.Keyring.{CertificateValue, ComponentValue, KeyringValue}
use Rattle.opgp_report.specs.First.{print_of}
use Rattle.opgp_report.specs.Standing.{Standing, by_number, certificate_standing, component_standing, hang_standing, hangs_standing, hung_at, is_signature, on_head, signature_standing}
use Rattle.opgp_report.specs.declared.verifier.Verdict.{Verdict}
use Rattle.opgp_valid.specs.KnownKeys.{known_in}
use Rattle.opgp_valid.specs.Told.{first_verdict}
use Rattle.opgp_valid.specs.declared.known_keys.Known.{Known}
use Rattle.opgp_bound.specs.Before.{IsBoundOf, components_decided, verdicts_of}
use Rattle.opgp_bound.specs.Bound.{bound_certificate, bound_certificates, components_in, kept_certificate, own_in}
use Rattle.opgp_bound.specs.Copies.{Deciding, decided}
use Rattle.opgp_bound.specs.Issuers.{is_issuer, revocation_issuers}
use Rattle.opgp_bound.specs.Judged.{JudgedComponentValue, JudgedValue, certificate_rows, component_rows, judged, judged_components, judged_hangs, rows_of, rows_on}
use Rattle.opgp_bound.specs.Role.{role_of, role_read}
use Rattle.opgp_bound.specs.declared.role.Role.{Role}
use Rattle.opgp_bound.specs.declared.role.Role.TheVariants.{Other}
use Rattle.opgp_bound.proofs.Rows.{certificate_counted, hang_counted, hangs_counted}

-- ---- packets
module _ (known : List Known) (print : Fingerprint) (v : Deciding) where
  -- what a packet on a subject is there for, by what the verifier says of it there
  abbrev pub role_on : SubjectValue → PacketValue → Role
  role_on subject p = role_of known print subject (v Hung subject p.body) p

  abbrev pub judged_on : SubjectValue → PacketValue → JudgedValue
  judged_on subject p = record { packet = p; role = role_on subject p }

  abbrev with_role : PacketValue → Role → JudgedValue
  with_role p role = record { packet = p; role = role }

  -- no verdict is on what is no signature
  any_verdict : (subject : SubjectValue) (a b : Verdict) (p : PacketValue) → is_signature p ≡ false → judged known print subject a p ≡ judged known print subject b p
  any_verdict subject a b p e =
      ap (λ (t : Bool). with_role p (if t then role_read known print subject a (signature_at p.body) else Other)) e
      ∙ sym (ap (λ (t : Bool). with_role p (if t then role_read known print subject b (signature_at p.body) else Other)) e)

  module _ (k : ℕ) (o : Option ℕ) (subject : SubjectValue) where
    abbrev its_rows : ℕ → PacketValue → List Standing
    its_rows n p = hang_standing k o subject n p

    first_of : (n : ℕ) (p : PacketValue) (rest : List Verdict) → judged known print subject (first_verdict (map (decided v) (its_rows n p) ++ rest)) p ≡ judged_on subject p
    first_of n p rest = go (is_signature p) refl where
      go : (t : Bool) → is_signature p ≡ t → judged known print subject (first_verdict (map (decided v) (if t then signature_standing (hung_at k o n) subject p.body else []) ++ rest)) p ≡ judged_on subject p
      go true e = refl
      go false e = any_verdict subject (first_verdict rest) (v Hung subject p.body) p e

    behind_it : (n : ℕ) (p : PacketValue) (rest : List Verdict) → drop (rows_of subject p) (map (decided v) (its_rows n p) ++ rest) ≡ rest
    behind_it n p rest = drop_at (map (decided v) (its_rows n p)) rest (rows_of subject p) (length-map (its_rows n p) (decided v) ∙ hang_counted k o subject n p)

    pub judged_all : (n : ℕ) (ps : List PacketValue) (rest : List Verdict) → judged_hangs known print subject ps (map (decided v) (by_number its_rows n ps) ++ rest) ≡ map (judged_on subject) ps
    judged_all n [] rest = refl
    judged_all n (p ∷ ps) rest =
        let these : List Verdict = map (decided v) (its_rows n p) in
        let more : List Verdict = map (decided v) (by_number its_rows (n + 1) ps) in
        let split : map (decided v) (by_number its_rows n (p ∷ ps)) ++ rest ≡ these ++ (more ++ rest) =
        ap (λ (l : List Verdict). l ++ rest) (map-append (decided v) (its_rows n p) (by_number its_rows (n + 1) ps)) ∙ append_assoc these more rest in
        ap (judged_hangs known print subject (p ∷ ps)) split
        ∙ ap (λ (j : JudgedValue). j ∷ judged_hangs known print subject ps (drop (rows_of subject p) (these ++ (more ++ rest)))) (first_of n p (more ++ rest))
        ∙ ap (λ (l : List Verdict). judged_on subject p ∷ judged_hangs known print subject ps l) (behind_it n p (more ++ rest))
        ∙ ap (λ (l : List JudgedValue). judged_on subject p ∷ l) (judged_all (n + 1) ps rest)

  -- ---- components
  module _ (issuers : List Fingerprint) (body : List ℕ) where
    abbrev with_hangs : ComponentValue → List JudgedValue → JudgedComponentValue
    with_hangs d js = record { head = d.head; is_issuer = is_issuer issuers d; hangs = js }

    abbrev pub component_on : ComponentValue → JudgedComponentValue
    component_on d = with_hangs d (map (judged_on (on_head body d.head)) d.hangs)

    pub all_components : (k n : ℕ) (ds : List ComponentValue) (rest : List Verdict) → judged_components known print issuers body ds (map (decided v) (by_number (component_standing body k) n ds) ++ rest) ≡ map component_on ds
    all_components k n [] rest = refl
    all_components k n (d ∷ ds) rest =
        let subject : SubjectValue = on_head body d.head in
        let here : List Standing = component_standing body k n d in
        let these : List Verdict = map (decided v) here in
        let more : List Verdict = map (decided v) (by_number (component_standing body k) (n + 1) ds) in
        let split : map (decided v) (by_number (component_standing body k) n (d ∷ ds)) ++ rest ≡ these ++ (more ++ rest) =
        ap (λ (l : List Verdict). l ++ rest) (map-append (decided v) here (by_number (component_standing body k) (n + 1) ds)) ∙ append_assoc these more rest in
        ap (judged_components known print issuers body (d ∷ ds)) split
        ∙ ap (λ (js : List JudgedValue). with_hangs d js ∷ judged_components known print issuers body ds (drop (component_rows body d) (these ++ (more ++ rest)))) (judged_all k (Some n) subject 0 d.hangs (more ++ rest))
        ∙ ap (λ (l : List Verdict). component_on d ∷ judged_components known print issuers body ds l) (drop_at these (more ++ rest) (component_rows body d) (length-map here (decided v) ∙ hangs_counted k (Some n) subject 0 d.hangs))
        ∙ ap (λ (l : List JudgedComponentValue). component_on d ∷ l) (all_components k (n + 1) ds rest)

-- ---- certificates
module _ (known : List Known) (v : Deciding) (issuers : List Fingerprint) where
  -- what is bound of one
  abbrev pub bound_by : CertificateValue → CertificateValue
  bound_by c =
      let print : Fingerprint = print_of c.primary.body in
      kept_certificate c.primary (map (judged_on known print v (one c.primary.body)) c.hangs) (map (component_on known print v issuers c.primary.body) c.components)

  module _ (k : ℕ) (c : CertificateValue) (rest : List Verdict) where
    abbrev print : Fingerprint
    print = print_of c.primary.body

    abbrev on_key : List Standing
    on_key = hangs_standing k None (one c.primary.body) c.hangs

    abbrev on_others : List Standing
    on_others = by_number (component_standing c.primary.body k) 0 c.components

    abbrev all_verdicts : List Verdict
    all_verdicts = map (decided v) (certificate_standing k c) ++ rest

    parted : all_verdicts ≡ map (decided v) on_key ++ (map (decided v) on_others ++ rest)
    parted = ap (λ (l : List Verdict). l ++ rest) (map-append (decided v) on_key on_others) ∙ append_assoc (map (decided v) on_key) (map (decided v) on_others) rest

    own_is : own_in known c all_verdicts ≡ map (judged_on known print v (one c.primary.body)) c.hangs
    own_is = ap (own_in known c) parted ∙ judged_all known print v k None (one c.primary.body) 0 c.hangs (map (decided v) on_others ++ rest)

    components_are : components_in known issuers c all_verdicts ≡ map (component_on known print v issuers c.primary.body) c.components
    components_are =
        ap (components_in known issuers c) parted
        ∙ ap (λ (l : List Verdict). judged_components known print issuers c.primary.body c.components l)
        (drop_at (map (decided v) on_key) (map (decided v) on_others ++ rest) (rows_on (one c.primary.body) c.hangs) (length-map on_key (decided v) ∙ hangs_counted k None (one c.primary.body) 0 c.hangs))
        ∙ all_components known print v issuers c.primary.body k 0 c.components rest

    bound_is : bound_certificate known issuers c all_verdicts ≡ bound_by c
    bound_is =
        ap (λ (js : List JudgedValue). kept_certificate c.primary js (components_in known issuers c all_verdicts)) own_is
        ∙ ap (λ (cs : List JudgedComponentValue). kept_certificate c.primary (map (judged_on known print v (one c.primary.body)) c.hangs) cs) components_are

  -- ---- one of several
  nth_bound : (k i : ℕ) (cs : List CertificateValue) (c m : CertificateValue) → slice_get cs i ≡ Some c
      → slice_get (bound_certificates known issuers cs (map (decided v) (by_number certificate_standing k cs))) i ≡ Some m → m ≡ bound_by c
  nth_bound k i [] c m e f = absurd (cc e)
  nth_bound k zero (d ∷ cs) c m e f =
      let more : List Standing = by_number certificate_standing (k + 1) cs in
      sym (same_Some (bound_certificate known issuers d (map (decided v) (certificate_standing k d ++ more))) m f)
      ∙ ap (bound_certificate known issuers d) (map-append (decided v) (certificate_standing k d) more)
      ∙ bound_is k d (map (decided v) more)
      ∙ ap bound_by (same_Some d c e)
  nth_bound k (suc i) (d ∷ cs) c m e f =
      let more : List Standing = by_number certificate_standing (k + 1) cs in
      let behind : drop (certificate_rows d) (map (decided v) (certificate_standing k d ++ more)) ≡ map (decided v) more =
      ap (drop (certificate_rows d)) (map-append (decided v) (certificate_standing k d) more)
      ∙ drop_at (map (decided v) (certificate_standing k d)) (map (decided v) more) (certificate_rows d) (length-map (certificate_standing k d) (decided v) ∙ certificate_counted k d) in
      nth_bound (k + 1) i cs c m e (sym (ap (λ (l : List Verdict). slice_get (bound_certificates known issuers cs l) i) behind) ∙ f)

-- ---- of a keyring
module _ (v : Deciding) (r : KeyringValue) (c : CertificateValue) where
  abbrev pub issuers_in : List Fingerprint
  issuers_in = revocation_issuers r (verdicts_of v r)

  pub made_by : (m : CertificateValue) → IsBoundOf v r c m → m ≡ bound_by (known_in r) v issuers_in c
  made_by m h = nth_bound (known_in r) v issuers_in 0 h.0 r.certificates c m h.1 h.2

  pub decided_are : components_decided v r c ≡ map (component_on (known_in r) (print_of c.primary.body) v issuers_in c.primary.body) c.components
  decided_are =
      ap (components_in (known_in r) issuers_in c) (sym (append-nil (map (decided v) (certificate_standing 0 c))))
      ∙ components_are (known_in r) v issuers_in 0 c []

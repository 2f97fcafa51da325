-- What stays of the packets of a certificate that are heard at a time, one after the other.
use Rattle.std.proofs.Common.{◌≡◌, ◌∙◌, ℕ, ◌+◌, List, [], ◌∷◌, ◌++◌, take, drop, Bool, ◌&&◌, not, cond, Option, Some, None, if◌then◌else◌, refl, sym, ap, append_assoc, All}
use Rattle.std.specs.Prelude.{Result, Ok, Err}
use Rattle.std.specs.List.{filter, flat_map}
use Rattle.std.proofs.lemmas.List.Elements.{All-cons, All-head, All-nil, All-tail}
use Rattle.opgp_octets.specs.declared.fault.BodyFault.{BodyFault}
use Rattle.opgp_octets.specs.declared.signature_type.SignatureType.{SignatureType}
use Rattle.opgp_frame.specs.Packet.{PacketValue}
use Rattle.opgp_packet.specs.Areas.{hashed_subs}
use Rattle.opgp_packet.specs.SignatureBody.{SignatureValue, signature_at}
use Rattle.opgp_hash.specs.SubjectValue.{SubjectValue, one}
use Rattle.opgp_hash.specs.declared.fingerprints.Fingerprint.{Fingerprint}
use Rattle.opgp_keyring.specs.Keyring.{CertificateValue, ComponentValue, IsCertificate, IsComponent, IsHung, IsKeyring, KeyringValue, certificate_packets, component_packets}
use Rattle.opgp_report.specs.First.{print_of}
use Rattle.opgp_report.specs.Standing.{is_signature, on_head}
use Rattle.opgp_report.specs.declared.verifier.Verdict.{Verdict}
use Rattle.opgp_valid.specs.KnownKeys.{known_in}
use Rattle.opgp_valid.specs.Subpackets.{made_in}
use Rattle.opgp_valid.specs.Told.{first_verdict, type_in}
use Rattle.opgp_valid.specs.declared.known_keys.Known.{Known}
use Rattle.opgp_valid.specs.declared.statement.Statement.{Statement}
use Rattle.opgp_bound.specs.Bound.{is_genuine, packets_of}
use Rattle.opgp_bound.specs.Judged.{JudgedValue, certificate_rows, component_rows, judged, judged_hangs, rows_of, rows_on}
use Rattle.opgp_bound.specs.Newest.{certificate_verdicts, is_before, names_revoker, newest_certificate, newest_certificates, newest_component, newest_component_rows, newest_components, newest_components_rows, newest_hangs, newest_keyring, newest_made, newest_rows, newest_stays, replaced_read, said}
use Rattle.opgp_bound.proofs.Found.{hangs_hung}
use Rattle.opgp_bound.proofs.Kept.{packets_hung, packets_more}

-- ---- by the same times
same_filter : (p q : JudgedValue → Bool) → ((j : JudgedValue) → p j ≡ q j) → (js : List JudgedValue) → filter p js ≡ filter q js
same_filter p q h [] = refl
same_filter p q h (j ∷ js) = ap (λ (b : Bool). cond b (j ∷ filter p js) (filter p js)) (h j) ∙ ap (λ (l : List JudgedValue). cond (q j) (j ∷ l) l) (same_filter p q h js)

module _ (f g : SignatureType → Option ℕ) (same : (t : SignatureType) → f t ≡ g t) where
  same_read : (r : Result SignatureValue BodyFault) → replaced_read f r ≡ replaced_read g r
  same_read (Err fault) = refl
  same_read (Ok v) = ap (λ (o : Option ℕ). is_before (made_in (hashed_subs v)) o && not (names_revoker v)) (same (type_in v))

  same_stays : (j : JudgedValue) → newest_stays f j ≡ newest_stays g j
  same_stays j = ap (λ (b : Bool). not (is_genuine j.role && (is_signature j.packet && b))) (same_read (signature_at j.packet.body))

  module _ (known : List Known) (print : Fingerprint) where
    pub same_hangs : (subject : SubjectValue) (ps : List PacketValue) (founds : List Verdict) → newest_hangs f known print subject ps founds ≡ newest_hangs g known print subject ps founds
    same_hangs subject ps founds = ap packets_of (same_filter (newest_stays f) (newest_stays g) same_stays (judged_hangs known print subject ps founds))

    pub same_rows : (subject : SubjectValue) (ps : List PacketValue) (founds : List Verdict) → newest_rows f known print subject ps founds ≡ newest_rows g known print subject ps founds
    same_rows subject [] founds = refl
    same_rows subject (p ∷ ps) founds =
        ap (λ (b : Bool). (if b then take (rows_of subject p) founds else []) ++ newest_rows f known print subject ps (drop (rows_of subject p) founds)) (same_stays (judged known print subject (first_verdict founds) p))
        ∙ ap (λ (l : List Verdict). (if newest_stays g (judged known print subject (first_verdict founds) p) then take (rows_of subject p) founds else []) ++ l) (same_rows subject ps (drop (rows_of subject p) founds))

    pub same_component : (body : List ℕ) (c : ComponentValue) (founds : List Verdict) → newest_component f known print body c founds ≡ newest_component g known print body c founds
    same_component body c founds =
        let made : List PacketValue → ComponentValue = λ hangs. record { head = c.head; hangs = hangs } in
        ap made (same_hangs (on_head body c.head) c.hangs founds)

-- ---- one packet more
module _ (newest : SignatureType → Option ℕ) (known : List Known) (print : Fingerprint) (subject : SubjectValue) (ps rest : List PacketValue) (p : PacketValue) (founds behind : List Verdict) (stays : Bool) where
  pub hangs_added : (done new : List PacketValue) → ps ≡ p ∷ rest → behind ≡ drop (rows_of subject p) founds → stays ≡ newest_stays newest (judged known print subject (first_verdict founds) p)
      → new ≡ done ++ (if stays then p ∷ [] else []) → new ++ newest_hangs newest known print subject rest behind ≡ done ++ newest_hangs newest known print subject ps founds
  hangs_added done new first dropped is added =
      packets_more (newest_stays newest) (judged_hangs known print subject ps founds) (judged_hangs known print subject rest behind) (judged known print subject (first_verdict founds) p) stays done new
      (ap (λ (l : List PacketValue). judged_hangs known print subject l founds) first ∙ ap (λ (l : List Verdict). judged known print subject (first_verdict founds) p ∷ judged_hangs known print subject rest l) (sym dropped))
      is added

  pub rows_added : (done new : List Verdict) → ps ≡ p ∷ rest → behind ≡ drop (rows_of subject p) founds → stays ≡ newest_stays newest (judged known print subject (first_verdict founds) p)
      → new ≡ done ++ (if stays then take (rows_of subject p) founds else []) → new ++ newest_rows newest known print subject rest behind ≡ done ++ newest_rows newest known print subject ps founds
  rows_added done new first dropped is added =
      let own : Bool → List Verdict = λ b. if b then take (rows_of subject p) founds else [] in
      ap (λ (l : List Verdict). l ++ newest_rows newest known print subject rest behind) added
      ∙ append_assoc done (own stays) (newest_rows newest known print subject rest behind)
      ∙ ap (λ (b : Bool). done ++ (own b ++ newest_rows newest known print subject rest behind)) is
      ∙ ap (λ (l : List Verdict). done ++ (own (newest_stays newest (judged known print subject (first_verdict founds) p)) ++ newest_rows newest known print subject rest l)) dropped
      ∙ ap (λ (l : List PacketValue). done ++ newest_rows newest known print subject l founds) (sym first)

-- ---- one component more
module _ (at : ℕ) (known : List Known) (ss : List Statement) (body : List ℕ) (n : ℕ) (cs rest : List ComponentValue) (c : ComponentValue) (founds behind : List Verdict) (newest : SignatureType → Option ℕ) where
  pub components_added : (done new : List PacketValue) → cs ≡ c ∷ rest → behind ≡ drop (component_rows body c) founds → ((t : SignatureType) → newest t ≡ newest_made at ss (Some n) t)
      → new ≡ done ++ component_packets (newest_component newest known (print_of body) body c founds)
      → new ++ flat_map component_packets (newest_components at known ss body (n + 1) rest behind) ≡ done ++ flat_map component_packets (newest_components at known ss body n cs founds)
  components_added done new first dropped times added =
      let own : ComponentValue = newest_component (newest_made at ss (Some n)) known (print_of body) body c founds in
      ap (λ (l : List PacketValue). l ++ flat_map component_packets (newest_components at known ss body (n + 1) rest behind)) (added ∙ ap (λ (d : ComponentValue). done ++ component_packets d) (same_component newest (newest_made at ss (Some n)) times known (print_of body) body c founds))
      ∙ append_assoc done (component_packets own) (flat_map component_packets (newest_components at known ss body (n + 1) rest behind))
      ∙ ap (λ (l : List Verdict). done ++ (component_packets own ++ flat_map component_packets (newest_components at known ss body (n + 1) rest l))) dropped
      ∙ ap (λ (l : List ComponentValue). done ++ flat_map component_packets (newest_components at known ss body n l founds)) (sym first)

  pub components_rows_added : (done new : List Verdict) → cs ≡ c ∷ rest → behind ≡ drop (component_rows body c) founds → ((t : SignatureType) → newest t ≡ newest_made at ss (Some n) t)
      → new ≡ done ++ newest_component_rows newest known (print_of body) body c founds
      → new ++ newest_components_rows at known ss body (n + 1) rest behind ≡ done ++ newest_components_rows at known ss body n cs founds
  components_rows_added done new first dropped times added =
      let own : List Verdict = newest_component_rows (newest_made at ss (Some n)) known (print_of body) body c founds in
      ap (λ (l : List Verdict). l ++ newest_components_rows at known ss body (n + 1) rest behind) (added ∙ ap (λ (l : List Verdict). done ++ l) (same_rows newest (newest_made at ss (Some n)) times known (print_of body) (on_head body c.head) c.hangs founds))
      ∙ append_assoc done own (newest_components_rows at known ss body (n + 1) rest behind)
      ∙ ap (λ (l : List Verdict). done ++ (own ++ newest_components_rows at known ss body (n + 1) rest l)) dropped
      ∙ ap (λ (l : List ComponentValue). done ++ newest_components_rows at known ss body n l founds) (sym first)

-- ---- what may stand there
module _ (newest : SignatureType → Option ℕ) (known : List Known) (print : Fingerprint) where
  newest_hung : (subject : SubjectValue) (ps : List PacketValue) (founds : List Verdict) → All IsHung ps → All IsHung (newest_hangs newest known print subject ps founds)
  newest_hung subject ps founds h = packets_hung (newest_stays newest) (judged_hangs known print subject ps founds) (hangs_hung known print subject ps founds h)

  component_is : (body : List ℕ) (c : ComponentValue) (founds : List Verdict) → IsComponent c → IsComponent (newest_component newest known print body c founds)
  component_is body c founds h = record { head = h.head; hangs = newest_hung (on_head body c.head) c.hangs founds h.hangs }

module _ (at : ℕ) (known : List Known) where
  components_are : (ss : List Statement) (body : List ℕ) (n : ℕ) (cs : List ComponentValue) (founds : List Verdict) → All IsComponent cs → All IsComponent (newest_components at known ss body n cs founds)
  components_are ss body n [] founds h = All-nil IsComponent
  components_are ss body n (c ∷ cs) founds h =
      All-cons IsComponent (newest_component (newest_made at ss (Some n)) known (print_of body) body c founds) (newest_components at known ss body (n + 1) cs (drop (component_rows body c) founds))
      (component_is (newest_made at ss (Some n)) known (print_of body) body c founds (All-head IsComponent c cs h))
      (components_are ss body (n + 1) cs (drop (component_rows body c) founds) (All-tail IsComponent c cs h))

  pub newest_is_certificate : (c : CertificateValue) (founds : List Verdict) → IsCertificate c → IsCertificate (newest_certificate at known c founds)
  newest_is_certificate c founds h = record {
    primary = h.primary;
    hangs = newest_hung (newest_made at (said known c founds) None) known (print_of c.primary.body) (one c.primary.body) c.hangs founds h.hangs;
    components = components_are (said known c founds) c.primary.body 0 c.components (drop (rows_on (one c.primary.body) c.hangs) founds) h.components;
  }

  all_newest : (cs : List CertificateValue) (founds : List Verdict) → All IsCertificate cs → All IsCertificate (newest_certificates at known cs founds)
  all_newest [] founds h = All-nil IsCertificate
  all_newest (c ∷ cs) founds h =
      All-cons IsCertificate (newest_certificate at known c founds) (newest_certificates at known cs (drop (certificate_rows c) founds))
      (newest_is_certificate c founds (All-head IsCertificate c cs h)) (all_newest cs (drop (certificate_rows c) founds) (All-tail IsCertificate c cs h))

pub newest_is_keyring : (r : KeyringValue) (founds : List Verdict) (at : ℕ) → IsKeyring r → IsKeyring (newest_keyring r founds at)
newest_is_keyring r founds at h = record { lead = h.lead; certificates = all_newest at (known_in r) r.certificates founds h.certificates }

-- ---- the certificate
module _ (at : ℕ) (known : List Known) (c : CertificateValue) (founds behind : List Verdict) (ss : List Statement) (newest : SignatureType → Option ℕ) where
  abbrev print : Fingerprint
  print = print_of c.primary.body

  abbrev made : List Statement → SignatureType → Option ℕ
  made all = newest_made at all None

  abbrev hangs_by : List Statement → List PacketValue
  hangs_by all = newest_hangs (made all) known print (one c.primary.body) c.hangs founds

  abbrev rows_by : List Statement → List Verdict
  rows_by all = newest_rows (made all) known print (one c.primary.body) c.hangs founds

  abbrev packets_by : List Statement → List Verdict → List PacketValue
  packets_by all l = flat_map component_packets (newest_components at known all c.primary.body 0 c.components l)

  abbrev component_rows_by : List Statement → List Verdict → List Verdict
  component_rows_by all l = newest_components_rows at known all c.primary.body 0 c.components l

  pub all_kept : ss ≡ said known c founds → ((t : SignatureType) → newest t ≡ newest_made at ss None t) → behind ≡ drop (rows_on (one c.primary.body) c.hangs) founds
      → (first two three : List PacketValue) → first ≡ c.primary ∷ []
      → two ≡ first ++ newest_hangs newest known print (one c.primary.body) c.hangs founds
      → three ≡ two ++ packets_by ss behind
      → three ≡ certificate_packets (newest_certificate at known c founds)
  all_kept is times dropped first two three e f g =
      g ∙ ap (λ (l : List PacketValue). l ++ packets_by ss behind) (f ∙ ap (λ (l : List PacketValue). l ++ newest_hangs newest known print (one c.primary.body) c.hangs founds) e)
      ∙ ap (λ (l : List PacketValue). (c.primary ∷ l) ++ packets_by ss behind) (same_hangs newest (made ss) times known print (one c.primary.body) c.hangs founds)
      ∙ ap (λ (all : List Statement). (c.primary ∷ hangs_by all) ++ packets_by all behind) is
      ∙ ap (λ (l : List Verdict). (c.primary ∷ hangs_by (said known c founds)) ++ packets_by (said known c founds) l) dropped

  pub all_rows_kept : ss ≡ said known c founds → ((t : SignatureType) → newest t ≡ newest_made at ss None t) → behind ≡ drop (rows_on (one c.primary.body) c.hangs) founds
      → (first two three : List Verdict)
      → two ≡ first ++ newest_rows newest known print (one c.primary.body) c.hangs founds
      → three ≡ two ++ component_rows_by ss behind
      → three ≡ first ++ certificate_verdicts at known c founds
  all_rows_kept is times dropped first two three f g =
      g ∙ ap (λ (l : List Verdict). l ++ component_rows_by ss behind) f
      ∙ append_assoc first (newest_rows newest known print (one c.primary.body) c.hangs founds) (component_rows_by ss behind)
      ∙ ap (λ (l : List Verdict). first ++ (l ++ component_rows_by ss behind)) (same_rows newest (made ss) times known print (one c.primary.body) c.hangs founds)
      ∙ ap (λ (all : List Statement). first ++ (rows_by all ++ component_rows_by all behind)) is
      ∙ ap (λ (l : List Verdict). first ++ (rows_by (said known c founds) ++ component_rows_by (said known c founds) l)) dropped

-- One certificate or row, looked for among parts.
use Rattle.std.proofs.Common.{◌≡◌, ℕ, zero, suc, ◌+◌, ◌<◌, List, [], ◌∷◌, ◌++◌, map, length, Option, Some, None, is_some, false, true, refl, sym, ap, subst, ◌∙◌, append-nil, length-append, arith}
use Rattle.std.specs.List.{slice_get}
use Rattle.std.proofs.lemmas.List.{length-map}
use Rattle.std.proofs.lemmas.List.Concat.{flat_map-append}
use Rattle.std.proofs.lemmas.Option.{slice_get_past, slice_get_within}
use Rattle.opgp_frame.specs.Packet.{PacketValue}
use Rattle.opgp_report.specs.Asked.{Asked, asked_by, asked_of, question_in}
use Rattle.opgp_report.specs.Standing.{certificate_standing}
use Rattle.opgp_report.proofs.Asking.{certificate_asked, certificate_asks, ring_asks}
use Rattle.opgp_keyring.specs.Composed.{PartValue, of_lead, of_certificate, lead_parts, parts_of}
use Rattle.opgp_keyring.specs.Keyring.{CertificateValue, KeyringValue}
use Rattle.opgp_stack.specs.OnePart.{IsNth, IsRow, asked_among, certificates_in, found_question}

pub get_front : {A : Type 0} (xs ys : List A) (n : ℕ) → n < length xs → slice_get (xs ++ ys) n ≡ slice_get xs n
get_front [] ys n h = absurd (omega arith)
get_front (x ∷ xs) ys zero h = refl
get_front (x ∷ xs) ys (suc n) h = get_front xs ys n (omega arith)

pub get_back : {A : Type 0} (xs ys : List A) (n m : ℕ) → m ≡ n + length xs → slice_get (xs ++ ys) m ≡ slice_get ys n
get_back [] ys n m e = ap (slice_get ys) (omega arith)
get_back (x ∷ xs) ys n zero e = absurd (omega arith)
get_back (x ∷ xs) ys n (suc m) e = get_back xs ys n m (omega arith)

-- ---- the certificates of parts

pub lead_push : (parts : List PartValue) (ps : List PacketValue) → certificates_in (parts ++ of_lead ps ∷ []) ≡ certificates_in parts
lead_push [] ps = refl
lead_push (of_lead qs ∷ parts) ps = lead_push parts ps
lead_push (of_certificate c ∷ parts) ps = ap (λ (cs : List CertificateValue). c ∷ cs) (lead_push parts ps)

pub certificate_push : (parts : List PartValue) (c : CertificateValue) → certificates_in (parts ++ of_certificate c ∷ []) ≡ certificates_in parts ++ c ∷ []
certificate_push [] c = refl
certificate_push (of_lead qs ∷ parts) c = certificate_push parts c
certificate_push (of_certificate d ∷ parts) c = ap (λ (cs : List CertificateValue). d ∷ cs) (certificate_push parts c)

of_certificates : (cs : List CertificateValue) → certificates_in (map of_certificate cs) ≡ cs
of_certificates [] = refl
of_certificates (c ∷ cs) = ap (λ (ds : List CertificateValue). c ∷ ds) (of_certificates cs)

all_in : (lead : List PacketValue) (cs : List CertificateValue) → certificates_in (lead_parts lead ++ map of_certificate cs) ≡ cs
all_in [] cs = of_certificates cs
all_in (p ∷ lead) cs = of_certificates cs

pub ring_certificates : (r : KeyringValue) → certificates_in (parts_of r) ≡ r.certificates
ring_certificates r = all_in r.lead r.certificates

-- ---- a certificate

nth_same : (number left : ℕ) (found : Option CertificateValue) (cs ds : List CertificateValue) → ds ≡ cs → IsNth number left found cs → IsNth number left found ds
nth_same number left found cs ds e h = subst (IsNth number left found) (sym e) h

pub nth_lead : (number left : ℕ) (found : Option CertificateValue) (parts : List PartValue) (ps : List PacketValue) → IsNth number left found (certificates_in parts) → IsNth number left found (certificates_in (parts ++ of_lead ps ∷ []))
nth_lead number left found parts ps h = nth_same number left found _ _ (lead_push parts ps) h

pub nth_still : (number left : ℕ) (found : Option CertificateValue) (parts : List PartValue) (c : CertificateValue) → is_some found ≡ true → IsNth number left found (certificates_in parts) → IsNth number left found (certificates_in (parts ++ of_certificate c ∷ []))
nth_still number left None parts c some h = absurd cc
nth_still number left (Some d) parts c some h = nth_same number left (Some d) _ _ (certificate_push parts c) (get_front (certificates_in parts) (c ∷ []) number (slice_get_within (certificates_in parts) number d h) ∙ h)

pub nth_passed : (number left next : ℕ) (found : Option CertificateValue) (parts : List PartValue) (c : CertificateValue) → is_some found ≡ false → next + 1 ≡ left → IsNth number left found (certificates_in parts) → IsNth number next found (certificates_in (parts ++ of_certificate c ∷ []))
nth_passed number left next None parts c none e h = nth_same number next None _ _ (certificate_push parts c) (omega (arith, length-append (certificates_in parts) (c ∷ []), h, e))
nth_passed number left next (Some d) parts c none e h = absurd cc

pub nth_here : (number left : ℕ) (found new : Option CertificateValue) (parts : List PartValue) (c : CertificateValue) → is_some found ≡ false → left ≡ 0 → new ≡ Some c → IsNth number left found (certificates_in parts) → IsNth number left new (certificates_in (parts ++ of_certificate c ∷ []))
nth_here number left None new parts c none last is h = subst (λ (o : Option CertificateValue). IsNth number left o (certificates_in (parts ++ of_certificate c ∷ []))) (sym is) (nth_same number left (Some c) _ _ (certificate_push parts c) (get_back (certificates_in parts) (c ∷ []) 0 number (omega (arith, h, last))))
nth_here number left (Some d) new parts c none last is h = absurd cc

pub nth_end : (number left : ℕ) (found : Option CertificateValue) (cs : List CertificateValue) → IsNth number left found cs → slice_get cs number ≡ found
nth_end number left None cs h = slice_get_past cs number (omega (arith, h))
nth_end number left (Some c) cs h = h

-- ---- a row

asked_push : (cs : List CertificateValue) (c : CertificateValue) → asked_among (cs ++ c ∷ []) ≡ asked_among cs ++ certificate_asked c
asked_push cs c =
    ring_asks (record { lead = []; certificates = cs ++ c ∷ [] }) ∙ flat_map-append certificate_asked cs (c ∷ [])
    ∙ ap (λ (l : List Asked). l ++ (certificate_asked c ++ [])) (sym (ring_asks (record { lead = []; certificates = cs })))
    ∙ ap (λ (l : List Asked). asked_among cs ++ l) (append-nil (certificate_asked c))

asked_alone : (c : CertificateValue) → asked_of (record { lead = []; certificates = c ∷ [] }) ≡ certificate_asked c
asked_alone c = ring_asks (record { lead = []; certificates = c ∷ [] }) ∙ append-nil (certificate_asked c)

-- the rows of one certificate more
pub all_pushed : (parts : List PartValue) (c : CertificateValue) → asked_among (certificates_in parts) ++ asked_of (record { lead = []; certificates = c ∷ [] }) ≡ asked_among (certificates_in (parts ++ of_certificate c ∷ []))
all_pushed parts c =
    ap (λ (l : List Asked). asked_among (certificates_in parts) ++ l) (asked_alone c) ∙ sym (ap asked_among (certificate_push parts c) ∙ asked_push (certificates_in parts) c)

count_asked : (c : CertificateValue) → length (certificate_asked c) ≡ length (certificate_standing 0 c)
count_asked c = ap (λ (l : List Asked). length l) (sym (certificate_asks 0 c)) ∙ length-map (certificate_standing 0 c) asked_by

passed : (number left next : ℕ) (cs : List CertificateValue) (c : CertificateValue) → left ≡ length (certificate_standing 0 c) + next → IsRow number left None cs → IsRow number next None (cs ++ c ∷ [])
passed number left next cs c e h =
    omega (arith, ap (λ (l : List Asked). length l) (asked_push cs c), length-append (asked_among cs) (certificate_asked c), count_asked c, h, e)

here : (number left : ℕ) (cs : List CertificateValue) (c : CertificateValue) → left < length (certificate_standing 0 c) → IsRow number left None cs → IsRow number left (Some (record { lead = []; certificates = c ∷ [] })) (cs ++ c ∷ [])
here number left cs c within h = (
  omega (arith, ap (λ (l : List Asked). length l) (asked_push cs c), length-append (asked_among cs) (certificate_asked c), count_asked c, h, within),
  ap (λ (l : List Asked). slice_get l number) (asked_push cs c) ∙ get_back (asked_among cs) (certificate_asked c) left number (sym h) ∙ ap (λ (l : List Asked). slice_get l left) (sym (asked_alone c)),
)

stays : (number left : ℕ) (ring : KeyringValue) (cs : List CertificateValue) (c : CertificateValue) → IsRow number left (Some ring) cs → IsRow number left (Some ring) (cs ++ c ∷ [])
stays number left ring cs c h = (
  omega (arith, ap (λ (l : List Asked). length l) (asked_push cs c), length-append (asked_among cs) (certificate_asked c), h.0),
  ap (λ (l : List Asked). slice_get l number) (asked_push cs c) ∙ get_front (asked_among cs) (certificate_asked c) number h.0 ∙ h.1,
)

row_same : (number left : ℕ) (found : Option KeyringValue) (cs ds : List CertificateValue) → ds ≡ cs → IsRow number left found cs → IsRow number left found ds
row_same number left found cs ds e h = subst (IsRow number left found) (sym e) h

pub row_lead : (number left : ℕ) (found : Option KeyringValue) (parts : List PartValue) (ps : List PacketValue) → IsRow number left found (certificates_in parts) → IsRow number left found (certificates_in (parts ++ of_lead ps ∷ []))
row_lead number left found parts ps h = row_same number left found _ _ (lead_push parts ps) h

pub row_still : (number left : ℕ) (found : Option KeyringValue) (parts : List PartValue) (c : CertificateValue) → is_some found ≡ true → IsRow number left found (certificates_in parts) → IsRow number left found (certificates_in (parts ++ of_certificate c ∷ []))
row_still number left None parts c some h = absurd cc
row_still number left (Some ring) parts c some h = row_same number left (Some ring) _ _ (certificate_push parts c) (stays number left ring (certificates_in parts) c h)

pub row_passed : (number left next : ℕ) (found : Option KeyringValue) (parts : List PartValue) (c : CertificateValue) → is_some found ≡ false → left ≡ length (certificate_standing 0 c) + next → IsRow number left found (certificates_in parts) → IsRow number next found (certificates_in (parts ++ of_certificate c ∷ []))
row_passed number left next None parts c none e h = row_same number next None _ _ (certificate_push parts c) (passed number left next (certificates_in parts) c e h)
row_passed number left next (Some ring) parts c none e h = absurd cc

pub row_here : (number left : ℕ) (found new : Option KeyringValue) (parts : List PartValue) (c : CertificateValue) → is_some found ≡ false → left < length (certificate_standing 0 c) → new ≡ Some (record { lead = []; certificates = c ∷ [] }) → IsRow number left found (certificates_in parts)
    → IsRow number left new (certificates_in (parts ++ of_certificate c ∷ []))
row_here number left None new parts c none within is h =
    subst (λ (o : Option KeyringValue). IsRow number left o (certificates_in (parts ++ of_certificate c ∷ []))) (sym is) (row_same number left (Some (record { lead = []; certificates = c ∷ [] })) _ _ (certificate_push parts c) (here number left (certificates_in parts) c within h))
row_here number left (Some ring) new parts c none within is h = absurd cc

pub row_end : (number left : ℕ) (found : Option KeyringValue) (r : KeyringValue) → IsRow number left found r.certificates → question_in (slice_get (asked_of r) number) ≡ found_question found left
row_end number left None r h = ap question_in (slice_get_past (asked_of r) number (omega (arith, h)))
row_end number left (Some ring) r h = ap question_in h.1

-- ---- at the end
pub nth_of_ring : (number left : ℕ) (found : Option CertificateValue) (r : KeyringValue) → IsNth number left found (certificates_in (parts_of r)) → slice_get r.certificates number ≡ found
nth_of_ring number left found r h = nth_end number left found r.certificates (subst (IsNth number left found) (ring_certificates r) h)

pub row_of_ring : (number left : ℕ) (found : Option KeyringValue) (r : KeyringValue) → IsRow number left found (certificates_in (parts_of r)) → question_in (slice_get (asked_of r) number) ≡ found_question found left
row_of_ring number left found r h = row_end number left found r (subst (IsRow number left found) (ring_certificates r) h)

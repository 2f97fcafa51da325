-- The rows of a report stand for the signature packets of the keyring.
use Rattle.std.proofs.Common.{◌≡◌, ◌∙◌, ℕ, suc, ◌+◌, Bool, true, false, cond, List, [], ◌∷◌, ◌++◌, map, All, Option, Some, None, refl, sym, ap, arith, slice_get}
use Rattle.std.specs.Prelude.{◌==◌, if◌then◌else◌, filter, is_none}
use Rattle.std.specs.List.{flat_map}
use Rattle.std.specs.Option.{option_map, option_and_then}
use Rattle.std.proofs.lemmas.List.{map-append}
use Rattle.std.proofs.lemmas.List.Elements.{All-head, All-tail, filter-append}
use Rattle.opgp_frame.specs.Packet.{PacketValue}
use Rattle.opgp_packet.specs.SignatureBody.{signature_at}
use Rattle.opgp_hash.specs.SubjectValue.{SubjectValue, one}
use Rattle.opgp_keyring.specs.Keyring.{CertificateValue, ComponentValue, KeyringValue, IsCertificate, IsComponent, IsFiller, IsKeyring, certificate_packets, component_packets, flat}
use Rattle.opgp_report.specs.declared.place.Place.{Place}
use Rattle.opgp_report.specs.Report.{Says, keys_in, report_of, row_of}
use Rattle.opgp_report.specs.RowValue.{RowValue}
use Rattle.opgp_report.specs.Standing.{Standing, bodies_within, by_number, certificate_standing, component_standing, hang_at, hang_standing, hangs_of, hangs_standing, hung_at, is_outer, is_signature, nested_standing, on_head, signature_standing, standing_in}
use Rattle.opgp_report.proofs.Scanning.{filler_signs_nothing, head_kind, primary_kind}

-- ---- packets
abbrev shown : List PacketValue → List (Option PacketValue)
shown ps = map Some (filter is_signature ps)

shown-append : (ps qs : List PacketValue) → shown (ps ++ qs) ≡ shown ps ++ shown qs
shown-append ps qs = ap (λ (l : List PacketValue). map Some l) (filter-append is_signature ps qs) ∙ map-append Some (filter is_signature ps) (filter is_signature qs)

not_shown : (p : PacketValue) (ps : List PacketValue) → is_signature p ≡ false → shown (p ∷ ps) ≡ shown ps
not_shown p ps e = ap (λ (b : Bool). map Some (cond b (p ∷ filter is_signature ps) (filter is_signature ps))) e

fillers_not_shown : (fs rest : List PacketValue) → All IsFiller fs → shown (fs ++ rest) ≡ shown rest
fillers_not_shown [] rest all = refl
fillers_not_shown (f ∷ fs) rest all = not_shown f (fs ++ rest) (filler_signs_nothing f (All-head IsFiller f fs all)) ∙ fillers_not_shown fs rest (All-tail IsFiller f fs all)

-- ---- what stands
module _ (r : KeyringValue) where
  -- what hangs in the places of those that aren't embedded
  abbrev found : List Standing → List (Option PacketValue)
  found list = map (λ s. hang_at r s.place) (filter (λ s. is_none s.place.nested) list)

  found-append : (list more : List Standing) → found (list ++ more) ≡ found list ++ found more
  found-append list more = ap (λ (l : List Standing). map (λ s. hang_at r s.place) l) (filter-append (λ s. is_none s.place.nested) list more)
      ∙ map-append (λ s. hang_at r s.place) (filter (λ s. is_none s.place.nested) list) (filter (λ s. is_none s.place.nested) more)

  -- two lists, part by part
  joined : (list more : List Standing) (ps qs : List PacketValue) → found list ≡ shown ps → found more ≡ shown qs → found (list ++ more) ≡ shown (ps ++ qs)
  joined list more ps qs e f = found-append list more ∙ ap (λ (l : List (Option PacketValue)). l ++ found more) e
      ∙ ap (λ (l : List (Option PacketValue)). shown ps ++ l) f ∙ sym (shown-append ps qs)

  embedded : (subject : SubjectValue) (place : Place) (n : ℕ) (bodies : List (List ℕ)) → found (by_number (nested_standing place subject) n bodies) ≡ []
  embedded subject place n [] = refl
  embedded subject place n (b ∷ bs) = embedded subject place (n + 1) bs

  chosen : (b : Bool) (list : List Standing) (p : PacketValue) → found list ≡ Some p ∷ [] → found (if b then list else []) ≡ map Some (cond b (p ∷ []) [])
  chosen true list p e = e
  chosen false list p e = refl

  hangs : (subject : SubjectValue) (certificate : ℕ) (component : Option ℕ) (n : ℕ) (ps : List PacketValue)
      → ((i : ℕ) → hang_at r (hung_at certificate component (n + i)) ≡ slice_get ps i) → found (by_number (hang_standing certificate component subject) n ps) ≡ shown ps
  hangs subject certificate component n [] at = refl
  hangs subject certificate component n (p ∷ ps) at =
      let here : hang_at r (hung_at certificate component n) ≡ Some p = ap (λ (m : ℕ). hang_at r (hung_at certificate component m)) (omega arith) ∙ at 0 in
      joined (hang_standing certificate component subject n p) (by_number (hang_standing certificate component subject) (n + 1) ps) (p ∷ []) ps
      (chosen (p.kind == 2) (signature_standing (hung_at certificate component n) subject p.body) p
      (ap (λ (l : List (Option PacketValue)). hang_at r (hung_at certificate component n) ∷ l) (embedded subject (hung_at certificate component n) 0 (bodies_within subject (signature_at p.body)))
      ∙ ap (λ (o : Option PacketValue). o ∷ []) here))
      (hangs subject certificate component (n + 1) ps (λ i. ap (λ (m : ℕ). hang_at r (hung_at certificate component m)) (omega arith) ∙ at (suc i)))

  components : (primary : List ℕ) (c : CertificateValue) (certificate n : ℕ) (cs : List ComponentValue) → slice_get r.certificates certificate ≡ Some c
      → ((i : ℕ) → slice_get c.components (n + i) ≡ slice_get cs i) → All IsComponent cs
      → found (by_number (component_standing primary certificate) n cs) ≡ shown (flat_map component_packets cs)
  components primary c certificate n [] here at all = refl
  components primary c certificate n (k ∷ ks) here at all =
      let is = All-head IsComponent k ks all in
      let this : slice_get c.components n ≡ Some k = ap (λ (m : ℕ). slice_get c.components m) (omega arith) ∙ at 0 in
      joined (hangs_standing certificate (Some n) (on_head primary k.head) k.hangs) (by_number (component_standing primary certificate) (n + 1) ks) (component_packets k) (flat_map component_packets ks)
      (hangs (on_head primary k.head) certificate (Some n) 0 k.hangs (λ i.
      ap (λ (o : Option CertificateValue). option_and_then (λ c. option_and_then (λ hangs. slice_get hangs (0 + i)) (hangs_of c (Some n))) o) here
      ∙ ap (λ (o : Option ComponentValue). option_and_then (λ hangs. slice_get hangs (0 + i)) (option_map (λ k. k.hangs) o)) this
      ∙ ap (λ (m : ℕ). slice_get k.hangs m) (omega arith))
      ∙ sym (not_shown k.head k.hangs (head_kind (λ k. (k == 2) ≡ false) refl refl refl k.head is.head)))
      (components primary c certificate (n + 1) ks here (λ i. ap (λ (m : ℕ). slice_get c.components m) (omega arith) ∙ at (suc i)) (All-tail IsComponent k ks all))

  certificate : (n : ℕ) (c : CertificateValue) → slice_get r.certificates n ≡ Some c → IsCertificate c → found (certificate_standing n c) ≡ shown (certificate_packets c)
  certificate n c here is =
      joined (hangs_standing n None (one c.primary.body) c.hangs) (by_number (component_standing c.primary.body n) 0 c.components) c.hangs (flat_map component_packets c.components)
      (hangs (one c.primary.body) n None 0 c.hangs (λ i.
      ap (λ (o : Option CertificateValue). option_and_then (λ c. option_and_then (λ hangs. slice_get hangs (0 + i)) (hangs_of c None)) o) here
      ∙ ap (λ (m : ℕ). slice_get c.hangs m) (omega arith)))
      (components c.primary.body c n 0 c.components here (λ i. ap (λ (m : ℕ). slice_get c.components m) (omega arith)) is.components)
      ∙ sym (not_shown c.primary (c.hangs ++ flat_map component_packets c.components) (ap (λ (k : ℕ). k == 2) (primary_kind c.primary is.primary)))

  certificates : (n : ℕ) (cs : List CertificateValue) → ((i : ℕ) → slice_get r.certificates (n + i) ≡ slice_get cs i) → All IsCertificate cs
      → found (by_number certificate_standing n cs) ≡ shown (flat_map certificate_packets cs)
  certificates n [] at all = refl
  certificates n (c ∷ cs) at all =
      joined (certificate_standing n c) (by_number certificate_standing (n + 1) cs) (certificate_packets c) (flat_map certificate_packets cs)
      (certificate n c (ap (λ (m : ℕ). slice_get r.certificates m) (omega arith) ∙ at 0) (All-head IsCertificate c cs all))
      (certificates (n + 1) cs (λ i. ap (λ (m : ℕ). slice_get r.certificates m) (omega arith) ∙ at (suc i)) (All-tail IsCertificate c cs all))

-- rows stand where what they are of stands
module _ (says : Says) (keys : List (List ℕ)) (r : KeyringValue) where
  kept : (b : Bool) (s : Standing) (rows : List RowValue) (list : List Standing) → map (λ row. hang_at r row.place) rows ≡ map (λ s. hang_at r s.place) list
      → map (λ row. hang_at r row.place) (cond b (row_of says keys s ∷ rows) rows) ≡ map (λ s. hang_at r s.place) (cond b (s ∷ list) list)
  kept true s rows list e = ap (λ (l : List (Option PacketValue)). hang_at r s.place ∷ l) e
  kept false s rows list e = e

  rows_of : (list : List Standing) → map (λ row. hang_at r row.place) (filter is_outer (map (row_of says keys) list)) ≡ found r list
  rows_of [] = refl
  rows_of (s ∷ list) = kept (is_none s.place.nested) s (filter is_outer (map (row_of says keys) list)) (filter (λ s. is_none s.place.nested) list) (rows_of list)

pub rows_stand : (says : Says) (r : KeyringValue) → IsKeyring r → map (λ row. hang_at r row.place) (filter is_outer (report_of says r)) ≡ map Some (filter is_signature (flat r))
rows_stand says r is = rows_of says (keys_in r) r (standing_in r)
    ∙ certificates r 0 r.certificates (λ i. ap (λ (m : ℕ). slice_get r.certificates m) (omega arith)) is.certificates
    ∙ sym (fillers_not_shown r.lead (flat_map certificate_packets r.certificates) is.lead)

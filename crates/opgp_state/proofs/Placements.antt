-- Places of rows, found as the parts of a keyring come.
use Rattle.std.proofs.Common.{◌≡◌, ◌∙◌, ℕ, zero, suc, ◌+◌, Bool, true, false, cond, List, [], ◌∷◌, ◌++◌, length, map, take, Option, Some, None, refl, sym, ap, arith, append_assoc, append-nil, length-append, slice_get}
use Rattle.std.specs.Prelude.{filter, if◌then◌else◌, Ok}
use Rattle.std.specs.List.{flat_map}
use Rattle.std.specs.Option.{option_and_then}
use Rattle.std.proofs.lemmas.List.{map-append}
use Rattle.std.proofs.lemmas.List.Concat.{flat_map-append}
use Rattle.opgp_frame.specs.Packet.{PacketValue}
use Rattle.opgp_packet.specs.SignatureBody.{signature_at}
use Rattle.opgp_hash.specs.SubjectValue.{SubjectValue, one}
use Rattle.opgp_keyring.specs.Composed.{PartValue, of_certificate, of_lead, lead_parts, parts_of}
use Rattle.opgp_keyring.specs.Keyring.{CertificateValue, ComponentValue, KeyringValue, certificate_packets, component_packets}
use Rattle.opgp_keyring.specs.Parts.{part_packets}
use Rattle.opgp_report.specs.Standing.{Standing, bodies_within, by_number, certificate_standing, component_standing, hang_standing, hangs_standing, hung_at, is_signature, nested_standing, on_head, signature_standing}
use Rattle.opgp_report.specs.declared.place.Place.{Place}
use Rattle.opgp_state.specs.Places.{certificate_places, is_user_id, packets_before, placed, places_of}
use Rattle.opgp_state.specs.Placing.{AddsPlaces, HasPlaces, IsHead, heads_from, places_among, user_ids_behind}
use Rattle.opgp_state.specs.declared.place_maker.PlaceMaker.{PlaceMaker}
use Rattle.opgp_state.specs.declared.placing.Placing.{Placing}
use Rattle.opgp_state.specs.declared.row_place.RowPlace.{RowPlace}

-- ---- where components begin
count_step : (b : Bool) (n : ℕ) (c : ComponentValue) (cs : List ComponentValue) → cond b (n + 1) n + length cs ≡ n + length (cond b (c ∷ cs) cs)
count_step true n c cs = omega arith
count_step false n c cs = refl

head_found : (packets user_ids : ℕ) (cs : List ComponentValue) (n : ℕ) (h : RowPlace) → slice_get (heads_from packets user_ids cs) n ≡ Some h
    → (h.packet ≡ packets + length (flat_map component_packets (take n cs)))
    × (h.user_id ≡ option_and_then (λ c. if is_user_id c then Some (user_ids + length (filter is_user_id (take n cs))) else None) (slice_get cs n))
head_found packets user_ids [] n h e = absurd cc
head_found packets user_ids (c ∷ cs) zero h e =
    let is : h ≡ record { packet = packets; user_id = if is_user_id c then Some user_ids else None } = cc in (
      ap (λ (x : RowPlace). x.packet) is ∙ omega arith,
      ap (λ (x : RowPlace). x.user_id) is ∙ ap (λ (m : ℕ). if is_user_id c then Some m else None) (omega arith),
    )
head_found packets user_ids (c ∷ cs) (suc n) h e =
    let here = component_packets c in
    let rest = flat_map component_packets (take n cs) in
    let (packet, user_id) = head_found (packets + length here) (user_ids_behind user_ids c) cs n h e in (
      omega (arith, packet, length-append here rest),
      user_id ∙ ap (λ (m : ℕ). option_and_then (λ k. if is_user_id k then Some m else None) (slice_get cs n)) (count_step (is_user_id c) user_ids c (filter is_user_id (take n cs))),
    )

pub head_of : (first : ℕ) (c : CertificateValue) (heads : List RowPlace) (n : ℕ) (h : RowPlace) → heads ≡ heads_from (first + 1 + length c.hangs) 0 c.components → slice_get heads n ≡ Some h → IsHead first c (Some n) h
head_of first c heads n h are e =
    let (packet, user_id) = head_found (first + 1 + length c.hangs) 0 c.components n h (ap (λ (l : List RowPlace). slice_get l n) (sym are) ∙ e) in (
      omega (arith, packet),
      user_id ∙ ap (λ (m : ℕ). option_and_then (λ k. if is_user_id k then Some m else None) (slice_get c.components n)) (omega arith),
    )

-- ---- a signature
abbrev at : ℕ → Option ℕ → RowPlace
at packet user_id = record { packet = packet; user_id = user_id }

pub place_found : (first : ℕ) (c : CertificateValue) (place : Place) (h : RowPlace) (hangs packet : ℕ) → IsHead first c place.component h → hangs ≡ h.packet + 1 → packet ≡ hangs + place.hang → at packet h.user_id ≡ placed first c place
place_found first c place h hangs packet (is, user_id) behind e =
    ap (λ (n : ℕ). at n h.user_id) (omega (arith, is, behind, e)) ∙ ap (λ (u : Option ℕ). at (placed first c place).packet u) user_id

pub one_added : (old new all more : List RowPlace) (p q : RowPlace) → new ≡ old ++ p ∷ [] → p ≡ q → all ≡ new ++ more → all ≡ old ++ q ∷ more
one_added old new all more p q e is h =
    h ∙ ap (λ (l : List RowPlace). l ++ more) e ∙ append_assoc old (p ∷ []) more ∙ ap (λ (x : RowPlace). old ++ x ∷ more) is

pub none_added : (E : Type 0) (maker : PlaceMaker) → AddsPlaces {E = E} maker [] (Ok maker)
none_added E maker c heads = sym (append-nil maker.places.items)

-- ---- a part more
packets_more : (parts : List PartValue) (part : PartValue) → length (flat_map part_packets (parts ++ part ∷ [])) ≡ length (flat_map part_packets parts) + length (part_packets part)
packets_more parts part =
    ap (λ (l : List PacketValue). length l) (flat_map-append part_packets parts (part ∷ []) ∙ ap (λ (l : List PacketValue). flat_map part_packets parts ++ l) (append-nil (part_packets part)))
    ∙ length-append (flat_map part_packets parts) (part_packets part)

places_append : (first : ℕ) (xs ys : List PartValue) → places_among first (xs ++ ys) ≡ places_among first xs ++ places_among (first + length (flat_map part_packets xs)) ys
places_append first [] ys = ap (λ (n : ℕ). places_among n ys) (omega arith)
places_append first (of_lead ps ∷ xs) ys =
    places_append (first + length ps) xs ys
    ∙ ap (λ (n : ℕ). places_among (first + length ps) xs ++ places_among n ys) (omega (arith, length-append ps (flat_map part_packets xs)))
places_append first (of_certificate c ∷ xs) ys =
    let here = map (λ s. placed first c s.place) (certificate_standing 0 c) in
    let behind = first + length (certificate_packets c) in
    ap (λ (l : List RowPlace). here ++ l) (places_append behind xs ys ∙ ap (λ (n : ℕ). places_among behind xs ++ places_among n ys) (omega (arith, length-append (certificate_packets c) (flat_map part_packets xs))))
    ∙ sym (append_assoc here (places_among behind xs) (places_among (first + length (flat_map part_packets (of_certificate c ∷ xs))) ys))

pub lead_more : (p q : Placing) (parts : List PartValue) (lead : List PacketValue) → q.packets ≡ p.packets + length lead → q.places.items ≡ p.places.items → HasPlaces p parts → HasPlaces q (parts ++ of_lead lead ∷ [])
lead_more p q parts lead packets places so = record {
  packets_are = omega (arith, packets, so.packets_are, packets_more parts (of_lead lead));
  places_are = places ∙ so.places_are ∙ sym (places_append 0 parts (of_lead lead ∷ []) ∙ append-nil (places_among 0 parts));
}

pub certificate_more : (p q : Placing) (parts : List PartValue) (c : CertificateValue) → q.packets ≡ p.packets + length (certificate_packets c) → q.places.items ≡ p.places.items ++ map (λ s. placed p.packets c s.place) (certificate_standing 0 c)
    → HasPlaces p parts → HasPlaces q (parts ++ of_certificate c ∷ [])
certificate_more p q parts c packets places so =
    let here : ℕ → List RowPlace = λ n. map (λ s. placed n c s.place) (certificate_standing 0 c) in
    let count : p.packets ≡ 0 + length (flat_map part_packets parts) = omega (arith, so.packets_are) in
    record {
      packets_are = omega (arith, packets, so.packets_are, packets_more parts (of_certificate c));
      places_are = places ∙ ap (λ (l : List RowPlace). l ++ here p.packets) so.places_are
          ∙ ap (λ (n : ℕ). places_among 0 parts ++ here n) count
          ∙ sym (places_append 0 parts (of_certificate c ∷ []) ∙ ap (λ (l : List RowPlace). places_among 0 parts ++ l) (append-nil (here (0 + length (flat_map part_packets parts)))));
    }

-- ---- the number of the certificate isn't seen
same_numbered : {A B C : Type 0} (see : B → C) (f g : ℕ → A → List B) → ((n : ℕ) (x : A) → map see (f n x) ≡ map see (g n x)) → (n : ℕ) (xs : List A) → map see (by_number f n xs) ≡ map see (by_number g n xs)
same_numbered see f g same n [] = refl
same_numbered {A} {B} {C} see f g same n (x ∷ xs) =
    map-append see (f n x) (by_number f (n + 1) xs)
    ∙ ap (λ (l : List C). l ++ map see (by_number f (n + 1) xs)) (same n x) ∙ ap (λ (l : List C). map see (g n x) ++ l) (same_numbered see f g same (n + 1) xs)
    ∙ sym (map-append see (g n x) (by_number g (n + 1) xs))

module _ (first : ℕ) (c : CertificateValue) where
  chosen : (b : Bool) (xs ys : List Standing) → map (λ s. placed first c s.place) xs ≡ map (λ s. placed first c s.place) ys → map (λ s. placed first c s.place) (cond b xs []) ≡ map (λ s. placed first c s.place) (cond b ys [])
  chosen true xs ys e = e
  chosen false xs ys e = refl

  same_hang : (n m : ℕ) (component : Option ℕ) (subject : SubjectValue) (i : ℕ) (p : PacketValue) → map (λ s. placed first c s.place) (hang_standing n component subject i p) ≡ map (λ s. placed first c s.place) (hang_standing m component subject i p)
  same_hang n m component subject i p =
      chosen (is_signature p) (signature_standing (hung_at n component i) subject p.body) (signature_standing (hung_at m component i) subject p.body)
      (ap (λ (l : List RowPlace). placed first c (hung_at n component i) ∷ l)
      (same_numbered (λ s. placed first c s.place) (nested_standing (hung_at n component i) subject) (nested_standing (hung_at m component i) subject) (λ k body. refl) 0 (bodies_within subject (signature_at p.body))))

  same_hangs : (n m : ℕ) (component : Option ℕ) (subject : SubjectValue) (ps : List PacketValue) → map (λ s. placed first c s.place) (hangs_standing n component subject ps) ≡ map (λ s. placed first c s.place) (hangs_standing m component subject ps)
  same_hangs n m component subject ps =
      same_numbered (λ s. placed first c s.place) (hang_standing n component subject) (hang_standing m component subject) (same_hang n m component subject) 0 ps

  same_places : (n m : ℕ) (d : CertificateValue) → map (λ s. placed first c s.place) (certificate_standing n d) ≡ map (λ s. placed first c s.place) (certificate_standing m d)
  same_places n m d =
      let hung : ℕ → List Standing = λ k. hangs_standing k None (one d.primary.body) d.hangs in
      let rest : ℕ → List Standing = λ k. by_number (component_standing d.primary.body k) 0 d.components in
      map-append (λ s. placed first c s.place) (hung n) (rest n)
      ∙ ap (λ (l : List RowPlace). l ++ map (λ s. placed first c s.place) (rest n)) (same_hangs n m None (one d.primary.body) d.hangs)
      ∙ ap (λ (l : List RowPlace). map (λ s. placed first c s.place) (hung m) ++ l)
      (same_numbered (λ s. placed first c s.place) (component_standing d.primary.body n) (component_standing d.primary.body m) (λ i k. same_hangs n m (Some i) (on_head d.primary.body k.head) k.hangs) 0 d.components)
      ∙ sym (map-append (λ s. placed first c s.place) (hung m) (rest m))

-- ---- all parts
from_lead : (lead : List PacketValue) (cs : List CertificateValue) → places_among 0 (lead_parts lead ++ map of_certificate cs) ≡ places_among (length lead) (map of_certificate cs)
from_lead [] cs = refl
from_lead (p ∷ lead) cs = ap (λ (n : ℕ). places_among n (map of_certificate cs)) (omega arith)

take_front : {A : Type 0} (xs ys : List A) → take (length xs) (xs ++ ys) ≡ xs
take_front [] ys = refl
take_front {A} (x ∷ xs) ys = ap (λ (l : List A). x ∷ l) (take_front xs ys)

count_more : (before : List CertificateValue) (c : CertificateValue) → length (flat_map certificate_packets (before ++ c ∷ [])) ≡ length (flat_map certificate_packets before) + length (certificate_packets c)
count_more before c =
    ap (λ (l : List PacketValue). length l) (flat_map-append certificate_packets before (c ∷ []) ∙ ap (λ (l : List PacketValue). flat_map certificate_packets before ++ l) (append-nil (certificate_packets c)))
    ∙ length-append (flat_map certificate_packets before) (certificate_packets c)

from_certificates : (r : KeyringValue) (before cs : List CertificateValue) → r.certificates ≡ before ++ cs
    → places_among (length r.lead + length (flat_map certificate_packets before)) (map of_certificate cs) ≡ by_number (certificate_places r) (length before) cs
from_certificates r before [] e = refl
from_certificates r before (c ∷ cs) e =
    let first = length r.lead + length (flat_map certificate_packets before) in
    let is : first ≡ packets_before r (length before) = ap (λ (l : List CertificateValue). length r.lead + length (flat_map certificate_packets l)) (sym (ap (λ (l : List CertificateValue). take (length before) l) e ∙ take_front before (c ∷ cs))) in
    let rest = places_among (first + length (certificate_packets c)) (map of_certificate cs) in
    ap (λ (l : List RowPlace). l ++ rest) (same_places first c 0 (length before) c ∙ ap (λ (n : ℕ). map (λ s. placed n c s.place) (certificate_standing (length before) c)) is)
    ∙ ap (λ (l : List RowPlace). certificate_places r (length before) c ++ l)
    (ap (λ (n : ℕ). places_among n (map of_certificate cs)) (omega (arith, count_more before c))
    ∙ from_certificates r (before ++ c ∷ []) cs (e ∙ sym (append_assoc before (c ∷ []) cs))
    ∙ ap (λ (n : ℕ). by_number (certificate_places r) n cs) (length-append before (c ∷ [])))

pub all_places : (p : Placing) (r : KeyringValue) → HasPlaces p (parts_of r) → p.places.items ≡ places_of r
all_places p r so =
    so.places_are ∙ from_lead r.lead r.certificates ∙ ap (λ (n : ℕ). places_among n (map of_certificate r.certificates)) (omega arith) ∙ from_certificates r [] r.certificates refl

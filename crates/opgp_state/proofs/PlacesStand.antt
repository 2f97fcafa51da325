-- The packet of a row's place is the one that its signature is in.
use Rattle.std.proofs.Common.{◌≡◌, ◌∙◌, ℕ, zero, suc, ◌+◌, Bool, true, false, cond, List, [], ◌∷◌, ◌++◌, length, map, take, Option, Some, None, refl, sym, ap, subst, arith, length-append, slice_get}
use Rattle.std.specs.List.{flat_map}
use Rattle.std.specs.Option.{option_map, option_and_then}
use Rattle.std.proofs.lemmas.List.{map-append}
use Rattle.opgp_frame.specs.Packet.{PacketValue}
use Rattle.opgp_packet.specs.SignatureBody.{signature_at}
use Rattle.opgp_hash.specs.SubjectValue.{SubjectValue, one}
use Rattle.opgp_keyring.specs.Keyring.{CertificateValue, ComponentValue, KeyringValue, certificate_packets, component_packets, flat}
use Rattle.opgp_report.specs.Report.{Says, keys_in, report_of, row_of}
use Rattle.opgp_report.specs.Standing.{Standing, bodies_within, by_number, certificate_standing, component_standing, hang_at, hang_standing, hangs_of, hangs_standing, hung_at, is_signature, nested_standing, on_head, signature_standing, standing_in}
use Rattle.opgp_state.specs.Places.{certificate_places, packets_before, placed, places_of, start_of}

-- ---- items of lists
get_front : {A : Type 0} (xs ys : List A) (n : ℕ) (x : A) → slice_get xs n ≡ Some x → slice_get (xs ++ ys) n ≡ Some x
get_front [] ys n x e = absurd cc
get_front (y ∷ xs) ys zero x e = e
get_front (y ∷ xs) ys (suc n) x e = get_front xs ys n x e

get_back : {A : Type 0} (xs ys : List A) (n m : ℕ) → m ≡ length xs + n → slice_get (xs ++ ys) m ≡ slice_get ys n
get_back [] ys n m e = ap (slice_get ys) (omega (arith, e))
get_back (x ∷ xs) ys n zero e = absurd (omega (arith, e))
get_back (x ∷ xs) ys n (suc m) e = get_back xs ys n m (omega (arith, e))

-- an item of what is made of an item of a list
get_made : {A B : Type 0} (make : A → List B) (xs : List A) (n m k : ℕ) (x : A) (y : B) → slice_get xs n ≡ Some x → slice_get (make x) m ≡ Some y
    → k ≡ length (flat_map make (take n xs)) + m → slice_get (flat_map make xs) k ≡ Some y
get_made make [] n m k x y e f g = absurd cc
get_made {A} {B} make (z ∷ xs) zero m k x y e f g =
    let is : z ≡ x = cc in
    get_front (make z) (flat_map make xs) k y (ap (λ (i : ℕ). slice_get (make z) i) (omega (arith, g)) ∙ ap (λ (a : A). slice_get (make a) m) is ∙ f)
get_made make (z ∷ xs) (suc n) m k x y e f g =
    get_back (make z) (flat_map make xs) (length (flat_map make (take n xs)) + m) k (omega (arith, g, length-append (make z) (flat_map make (take n xs))))
    ∙ get_made make xs n m (length (flat_map make (take n xs)) + m) x y e f refl

-- ---- what is so of all that is made of a list
abbrev AllSo : {A : Type 0} → (A → Type 0) → List A → Type 0
AllSo P [] = Unit {0}
AllSo P (x ∷ xs) = P x × AllSo P xs

both_so : {A : Type 0} (P : A → Type 0) (xs ys : List A) → AllSo P xs → AllSo P ys → AllSo P (xs ++ ys)
both_so P [] ys a b = b
both_so P (x ∷ xs) ys a b = (a.0, both_so P xs ys a.1 b)

each_so : {A B : Type 0} (P : B → Type 0) (make : ℕ → A → List B) (n : ℕ) (xs : List A) → ((i : ℕ) (x : A) → slice_get xs i ≡ Some x → AllSo P (make (n + i) x)) → AllSo P (by_number make n xs)
each_so P make n [] each = tt
each_so {A} {B} P make n (x ∷ xs) each =
    both_so P (make n x) (by_number make (n + 1) xs) (subst (λ (m : ℕ). AllSo P (make m x)) (omega arith) (each 0 x refl))
    (each_so P make (n + 1) xs (λ i y e. subst (λ (m : ℕ). AllSo P (make m y)) (omega arith) (each (suc i) y e)))

alike : {A B : Type 0} (f g : A → B) (xs : List A) → AllSo (λ x. f x ≡ g x) xs → map f xs ≡ map g xs
alike f g [] a = refl
alike {A} {B} f g (x ∷ xs) a = ap (λ (y : B). y ∷ map f xs) a.0 ∙ ap (λ (l : List B). g x ∷ l) (alike f g xs a.1)

-- ---- a certificate
module _ (r : KeyringValue) (n : ℕ) (c : CertificateValue) (is : slice_get r.certificates n ≡ Some c) where
  -- its packets are those of the keyring behind the packets before it
  get_packet : (m k : ℕ) (p : PacketValue) → slice_get (certificate_packets c) m ≡ Some p → k ≡ packets_before r n + m → slice_get (flat r) k ≡ Some p
  get_packet m k p e f =
      let in_all : ℕ = length (flat_map certificate_packets (take n r.certificates)) + m in
      get_back r.lead (flat_map certificate_packets r.certificates) in_all k (omega (arith, f))
      ∙ get_made certificate_packets r.certificates n m in_all c p is e refl

  abbrev IsThere : Standing → Type 0
  IsThere s = slice_get (flat r) (placed (packets_before r n) c s.place).packet ≡ hang_at r s.place

  chosen : (b : Bool) (xs : List Standing) → AllSo IsThere xs → AllSo IsThere (cond b xs [])
  chosen true xs a = a
  chosen false xs a = tt

  hang_there : (component : Option ℕ) (subject : SubjectValue) (i : ℕ) (p q : PacketValue) → slice_get (flat r) (packets_before r n + start_of c component + 1 + i) ≡ Some q → hang_at r (hung_at n component i) ≡ Some q
      → AllSo IsThere (hang_standing n component subject i p)
  hang_there component subject i p q e f =
      chosen (is_signature p) (signature_standing (hung_at n component i) subject p.body)
      (e ∙ sym f, each_so IsThere (nested_standing (hung_at n component i) subject) 0 (bodies_within subject (signature_at p.body)) (λ k body g. (e ∙ sym f, tt)))

  hangs_there : (component : Option ℕ) (subject : SubjectValue) (hangs : List PacketValue) → hangs_of c component ≡ Some hangs
      → ((i : ℕ) (p : PacketValue) → slice_get hangs i ≡ Some p → slice_get (certificate_packets c) (start_of c component + 1 + i) ≡ Some p)
      → AllSo IsThere (hangs_standing n component subject hangs)
  hangs_there component subject hangs own there = each_so IsThere (hang_standing n component subject) 0 hangs (λ i p e.
      subst (λ (m : ℕ). AllSo IsThere (hang_standing n component subject m p)) (omega arith)
      (hang_there component subject i p p (get_packet (start_of c component + 1 + i) (packets_before r n + start_of c component + 1 + i) p (there i p e) (omega arith))
      (ap (λ (o : Option CertificateValue). option_and_then (λ d. option_and_then (λ l. slice_get l i) (hangs_of d component)) o) is
      ∙ ap (λ (o : Option (List PacketValue)). option_and_then (λ l. slice_get l i) o) own ∙ e)))

  primary_there : (i : ℕ) (p : PacketValue) → slice_get c.hangs i ≡ Some p → slice_get (certificate_packets c) (start_of c None + 1 + i) ≡ Some p
  primary_there i p e =
      get_back (c.primary ∷ []) (c.hangs ++ flat_map component_packets c.components) i (0 + 1 + i) (omega arith)
      ∙ get_front c.hangs (flat_map component_packets c.components) i p e

  component_there : (m : ℕ) (k : ComponentValue) → slice_get c.components m ≡ Some k → (i : ℕ) (p : PacketValue) → slice_get k.hangs i ≡ Some p → slice_get (certificate_packets c) (start_of c (Some m) + 1 + i) ≡ Some p
  component_there m k own i p e =
      let behind : ℕ = length (flat_map component_packets (take m c.components)) + (1 + i) in
      get_back (c.primary ∷ c.hangs) (flat_map component_packets c.components) behind (start_of c (Some m) + 1 + i) (omega arith)
      ∙ get_made component_packets c.components m (1 + i) behind k p own (get_back (k.head ∷ []) k.hangs i (1 + i) (omega arith) ∙ e) refl

  certificate_there : AllSo IsThere (certificate_standing n c)
  certificate_there =
      both_so IsThere (hangs_standing n None (one c.primary.body) c.hangs) (by_number (component_standing c.primary.body n) 0 c.components)
      (hangs_there None (one c.primary.body) c.hangs refl primary_there)
      (each_so IsThere (component_standing c.primary.body n) 0 c.components (λ m k own.
      subst (λ (j : ℕ). AllSo IsThere (component_standing c.primary.body n j k)) (omega arith)
      (hangs_there (Some m) (on_head c.primary.body k.head) k.hangs (ap (λ (o : Option ComponentValue). option_map (λ d. d.hangs) o) own) (component_there m k own))))

map_map : {A B C : Type 0} (f : A → B) (g : B → C) (xs : List A) → map g (map f xs) ≡ map (λ x. g (f x)) xs
map_map f g [] = refl
map_map {A} {B} {C} f g (x ∷ xs) = ap (λ (l : List C). g (f x) ∷ l) (map_map f g xs)

-- ---- all certificates
module _ (r : KeyringValue) where
  of_certificates : (n : ℕ) (cs : List CertificateValue) → ((i : ℕ) (c : CertificateValue) → slice_get cs i ≡ Some c → slice_get r.certificates (n + i) ≡ Some c)
      → map (λ p. slice_get (flat r) p.packet) (by_number (certificate_places r) n cs) ≡ map (λ s. hang_at r s.place) (by_number certificate_standing n cs)
  of_certificates n [] each = refl
  of_certificates n (c ∷ cs) each =
      let here = certificate_standing n c in
      let is : slice_get r.certificates n ≡ Some c = ap (λ (m : ℕ). slice_get r.certificates m) (omega arith) ∙ each 0 c refl in
      map-append (λ p. slice_get (flat r) p.packet) (certificate_places r n c) (by_number (certificate_places r) (n + 1) cs)
      ∙ ap (λ (l : List (Option PacketValue)). l ++ map (λ p. slice_get (flat r) p.packet) (by_number (certificate_places r) (n + 1) cs))
      (map_map (λ s. placed (packets_before r n) c s.place) (λ p. slice_get (flat r) p.packet) here
      ∙ alike (λ s. slice_get (flat r) (placed (packets_before r n) c s.place).packet) (λ s. hang_at r s.place) here (certificate_there r n c is))
      ∙ ap (λ (l : List (Option PacketValue)). map (λ s. hang_at r s.place) here ++ l)
      (of_certificates (n + 1) cs (λ i d e. ap (λ (m : ℕ). slice_get r.certificates m) (omega arith) ∙ each (suc i) d e))
      ∙ sym (map-append (λ s. hang_at r s.place) here (by_number certificate_standing (n + 1) cs))

pub packets_there : (says : Says) (r : KeyringValue) → map (λ p. slice_get (flat r) p.packet) (places_of r) ≡ map (λ row. hang_at r row.place) (report_of says r)
packets_there says r =
    of_certificates r 0 r.certificates (λ i c e. ap (λ (m : ℕ). slice_get r.certificates m) (omega arith) ∙ e)
    ∙ sym (map_map (row_of says (keys_in r)) (λ row. hang_at r row.place) (standing_in r))

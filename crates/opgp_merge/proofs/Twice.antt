-- Merging twice is merging once.
use Rattle.std.proofs.Common.{◌≡◌, ◌∙◌, ℕ, Bool, true, false, ◌&&◌, ◌==◌, List, [], ◌∷◌, ◌++◌, map, refl, sym, ap, subst, Decides, append-nil, eqb-true, inl, inr}
use Rattle.std.proofs.lemmas.Bool.Decides.{Decides-eqb}
use Rattle.std.proofs.lemmas.Slice.Eq.{bytes_eq-Decides}
use Rattle.std.specs.List.{flat_map}
use Rattle.std.specs.Str.{bytes_eq}
use Rattle.opgp_frame.specs.Packet.{PacketValue}
use Rattle.opgp_keyring.specs.Keyring.{CertificateValue, ComponentValue, KeyringValue}
use Rattle.opgp_merge.specs.Merged.{firsts, like, merged_of, same_head, same_packet, same_primary, united_certificate, united_component, united_components}
use Rattle.opgp_merge.proofs.Firsts.{firsts_of_map, firsts_twice, like_itself}
use Rattle.opgp_merge.proofs.Within.{Within, from_map}

-- ---- what is the same has one key
both : (a b : Bool) → (a && b) ≡ true → (a ≡ true) × (b ≡ true)
both true b e = (refl, e)
both false b e = (e, cc)

abbrev pub packet_key : PacketValue → ℕ × List ℕ
packet_key p = (p.kind, p.body)

same_kind : (n : ℕ) → (n == n) ≡ true
same_kind n = (Decides-eqb n n).1 refl

pub decides_packet : (p q : PacketValue) → Decides (same_packet p q) (packet_key p ≡ packet_key q)
decides_packet p q = (
  λ e. let parts = both (p.kind == q.kind) (bytes_eq p.body q.body) e in
      let kinds : p.kind ≡ q.kind = eqb-true p.kind q.kind parts.0 in
      let bodies : p.body ≡ q.body = (bytes_eq-Decides p.body q.body).0 parts.1 in
      ap (λ (k : ℕ). (k, p.body)) kinds ∙ ap (λ (b : List ℕ). (q.kind, b)) bodies,
  λ e. let kinds : p.kind ≡ q.kind = ap (λ (k : ℕ × List ℕ). k.0) e in
      let bodies : p.body ≡ q.body = ap (λ (k : ℕ × List ℕ). k.1) e in
      ap (λ (b : Bool). b && bytes_eq p.body q.body) (ap (λ (k : ℕ). p.kind == k) (sym kinds) ∙ same_kind p.kind)
      ∙ (bytes_eq-Decides p.body q.body).1 bodies,
)

abbrev pub head_key : ComponentValue → ℕ × List ℕ
head_key c = packet_key c.head

pub decides_head : (c d : ComponentValue) → Decides (same_head c d) (head_key c ≡ head_key d)
decides_head c d = decides_packet c.head d.head

abbrev pub primary_key : CertificateValue → List ℕ
primary_key c = c.primary.body

pub decides_primary : (c d : CertificateValue) → Decides (same_primary c d) (primary_key c ≡ primary_key d)
decides_primary c d = bytes_eq-Decides c.primary.body d.primary.body

-- ---- one level after the other
map_same : {X : Type 0} (f : X → X) (xs : List X) → ((x : X) → Within xs x → f x ≡ x) → map f xs ≡ xs
map_same f [] same = refl
map_same f (x ∷ xs) same = ap (λ z. z ∷ map f xs) (same x (inl refl)) ∙ ap (λ l. x ∷ l) (map_same f xs (λ y w. same y (inr w)))

hangs_twice : (ps : List PacketValue) → firsts same_packet (firsts same_packet ps ++ []) ≡ firsts same_packet ps
hangs_twice ps = ap (firsts same_packet) (append-nil (firsts same_packet ps)) ∙ firsts_twice same_packet packet_key decides_packet ps

module _ (cs : List ComponentValue) where
  united : List ComponentValue
  united = united_components cs

  own_heads : firsts same_head united ≡ united
  unfolding united
  own_heads =
      firsts_of_map same_head head_key decides_head (united_component cs) (λ c d. refl) (firsts same_head cs)
      ∙ ap (map (united_component cs)) (firsts_twice same_head head_key decides_head cs)

  alone : (c : ComponentValue) → Within united c → like same_head c united ≡ c ∷ []
  alone c w = subst (λ l. like same_head c l ≡ c ∷ []) own_heads
      (like_itself same_head head_key decides_head c united (subst (λ l. Within l c) (sym own_heads) w))

  stays : (c : ComponentValue) → Within united c → united_component united c ≡ c
  unfolding united
  stays c w =
      let made = from_map (united_component cs) (firsts same_head cs) c w in
      ap (λ l. record { head = c.head; hangs = firsts same_packet (flat_map (λ d. d.hangs) l) }) (alone c w)
      ∙ subst (λ d. record { head = d.head; hangs = firsts same_packet (d.hangs ++ []) } ≡ d) made.2
      (ap (λ l. record { head = made.0.head; hangs = l }) (hangs_twice (flat_map (λ d. d.hangs) (like same_head made.0 cs))))

  pub components_twice : united_components (united_components cs) ≡ united_components cs
  unfolding united
  components_twice = ap (map (united_component united)) own_heads ∙ map_same (united_component united) united stays

module _ (cs : List CertificateValue) where
  merged : List CertificateValue
  merged = map (united_certificate cs) (firsts same_primary cs)

  own_primaries : firsts same_primary merged ≡ merged
  unfolding merged
  own_primaries =
      firsts_of_map same_primary primary_key decides_primary (united_certificate cs) (λ c d. refl) (firsts same_primary cs)
      ∙ ap (map (united_certificate cs)) (firsts_twice same_primary primary_key decides_primary cs)

  single : (c : CertificateValue) → Within merged c → like same_primary c merged ≡ c ∷ []
  single c w = subst (λ l. like same_primary c l ≡ c ∷ []) own_primaries
      (like_itself same_primary primary_key decides_primary c merged (subst (λ l. Within l c) (sym own_primaries) w))

  abbrev made_of : CertificateValue → List CertificateValue → CertificateValue
  made_of c l = record {
    primary = c.primary;
    hangs = firsts same_packet (flat_map (λ d. d.hangs) l);
    components = united_components (flat_map (λ d. d.components) l);
  }

  remains : (c : CertificateValue) → Within merged c → united_certificate merged c ≡ c
  unfolding merged
  remains c w =
      let made = from_map (united_certificate cs) (firsts same_primary cs) c w in
      let hangs : List PacketValue = flat_map (λ d. d.hangs) (like same_primary made.0 cs) in
      let parts : List ComponentValue = flat_map (λ d. d.components) (like same_primary made.0 cs) in
      ap (made_of c) (single c w)
      ∙ subst (λ d. made_of d (d ∷ []) ≡ d) made.2
      (ap (λ l. record { primary = made.0.primary; hangs = l; components = united_components (united_components parts ++ []) }) (hangs_twice hangs)
      ∙ ap (λ l. record { primary = made.0.primary; hangs = firsts same_packet hangs; components = l })
      (ap united_components (append-nil (united_components parts)) ∙ components_twice parts))

  certificates_twice : map (united_certificate merged) (firsts same_primary merged) ≡ merged
  certificates_twice = ap (map (united_certificate merged)) own_primaries ∙ map_same (united_certificate merged) merged remains

pub merged_twice : (r : KeyringValue) → merged_of (merged_of r) ≡ merged_of r
unfolding merged
merged_twice r = ap (λ l. record { lead = r.lead; certificates = l }) (certificates_twice r.certificates)

-- A merged certificate has all that hangs on its copies.
use Rattle.std.proofs.Common.{◌≡◌, ◌∙◌, ℕ, Bool, true, false, ◌==◌, List, [], ◌∷◌, not, refl, sym, ap, subst, inl, inr}
use Rattle.std.specs.List.{Contains, filter, flat_map}
use Rattle.std.specs.Str.{bytes_eq}
use Rattle.std.proofs.lemmas.Bool.{and_from, and_parts, eq-eqb, eqb-true}
use Rattle.std.proofs.lemmas.Slice.Eq.{bytes_eq-Decides}
use Rattle.opgp_frame.specs.Packet.{PacketValue}
use Rattle.opgp_keyring.specs.Keyring.{CertificateValue, ComponentValue, KeyringValue}
use Rattle.opgp_merge.specs.Merged.{firsts, like, merged_of, same_head, same_packet, same_primary, united_certificate, united_component, united_components}
use Rattle.opgp_valid.proofs.Members.{kept_from, member_cases, member_here, member_there, none_in}
use Rattle.opgp_bound.proofs.Issuing.{from_map, to_map}
use Rattle.opgp_bound.proofs.Staying.{flat_in}

-- ---- what the same packets and heads have in common
abbrev pub packet_key : PacketValue → ℕ × List ℕ
packet_key p = (p.kind, p.body)

abbrev pub head_key : ComponentValue → ℕ × List ℕ
head_key d = packet_key d.head

key_of_same : (p q : PacketValue) → same_packet p q ≡ true → packet_key p ≡ packet_key q
key_of_same p q e =
    let parts = and_parts (p.kind == q.kind) (bytes_eq p.body q.body) e in
    ap (λ (k : ℕ). (k, p.body)) (eqb-true p.kind q.kind parts.0) ∙ ap (λ (b : List ℕ). (q.kind, b)) ((bytes_eq-Decides p.body q.body).0 parts.1)

same_by_key : (p q : PacketValue) → packet_key p ≡ packet_key q → same_packet p q ≡ true
same_by_key p q e =
    and_from (p.kind == q.kind) (bytes_eq p.body q.body) (eq-eqb p.kind q.kind (ap (λ (k : ℕ × List ℕ). k.0) e)) ((bytes_eq-Decides p.body q.body).1 (ap (λ (k : ℕ × List ℕ). k.1) e))

pub key_of_head : (d e : ComponentValue) → same_head d e ≡ true → head_key d ≡ head_key e
key_of_head d e h = key_of_same d.head e.head h

-- ---- the first of those that are the same
module _ {X K : Type 0} (same : X → X → Bool) (key : X → K) (sound : (x y : X) → same x y ≡ true → key x ≡ key y) where
  abbrev HasFirst : List X → X → Type 0
  HasFirst xs x = (y : X) × Contains (firsts same xs) y × (key x ≡ key y)

  first_or : (y : X) (ys : List X) (x : X) → HasFirst ys x → HasFirst (y ∷ ys) x
  first_or y ys x r = go (same y r.0) refl where
    go : (b : Bool) → same y r.0 ≡ b → HasFirst (y ∷ ys) x
    go true e = (y, member_here y (filter (λ z. not (same y z)) (firsts same ys)), r.2 ∙ sym (sound y r.0 e))
    go false e = (r.0, member_there y r.0 (filter (λ z. not (same y z)) (firsts same ys)) (kept_from (λ z. not (same y z)) (firsts same ys) r.0 r.1 (ap not e)), r.2)

  has_first : (xs : List X) (x : X) → Contains xs x → HasFirst xs x
  has_first [] x h = absurd (none_in x h)
  has_first (y ∷ ys) x h = elim (member_cases y x ys h) [
    | inl e ↦ (y, member_here y (filter (λ z. not (same y z)) (firsts same ys)), sym (ap key e))
    | inr b ↦ first_or y ys x (has_first ys x b)
  ]

-- ---- packets
-- one of this type and body is among them
abbrev pub HasLike : List PacketValue → PacketValue → Type 0
HasLike ps p = (q : PacketValue) × Contains ps q × (packet_key p ≡ packet_key q)

has_like : (ps : List PacketValue) (p : PacketValue) → Contains ps p → HasLike (firsts same_packet ps) p
has_like ps p h = has_first same_packet packet_key key_of_same ps p h

-- ---- components
abbrev pub HasHead : List ComponentValue → ComponentValue → Type 0
HasHead cs d = (e : ComponentValue) × Contains cs e × (head_key d ≡ head_key e)

module _ (cs : List ComponentValue) (d : ComponentValue) (there : Contains cs d) where
  has_head : HasHead (united_components cs) d
  has_head =
      let first = has_first same_head head_key key_of_head cs d there in
      (united_component cs first.0, to_map (united_component cs) (firsts same_head cs) first.0 first.1, first.2)

  -- a component of the same head has what is on this one
  has_on : (e : ComponentValue) → Contains (united_components cs) e → head_key d ≡ head_key e → (p : PacketValue) → Contains d.hangs p → HasLike e.hangs p
  has_on e among same p h =
      let made = from_map (united_component cs) (firsts same_head cs) e among in
      let of_one : head_key made.0 ≡ head_key d = ap head_key made.2 ∙ sym same in
      let likes : Contains (like same_head made.0 cs) d = kept_from (same_head made.0) cs d there (same_by_key made.0.head d.head of_one) in
      subst (λ (c : ComponentValue). HasLike c.hangs p) made.2
      (has_like (flat_map (λ c. c.hangs) (like same_head made.0 cs)) p (flat_in (λ (c : ComponentValue). c.hangs) p (like same_head made.0 cs) d likes h))

-- ---- certificates
-- the second has the primary key of the first, and all that hangs on it and on its components
pub record HasAll (c m : CertificateValue) : Type 0 where
  pub primary : c.primary.body ≡ m.primary.body
  pub hangs : (p : PacketValue) → Contains c.hangs p → HasLike m.hangs p
  pub heads : (d : ComponentValue) → Contains c.components d → HasHead m.components d
  pub on : (d e : ComponentValue) (p : PacketValue) → Contains c.components d → Contains m.components e → head_key d ≡ head_key e → Contains d.hangs p → HasLike e.hangs p

united_has : (cs : List CertificateValue) (c f : CertificateValue) → Contains cs c → c.primary.body ≡ f.primary.body → HasAll c (united_certificate cs f)
united_has cs c f there own =
    let all : List CertificateValue = like same_primary f cs in
    let among : Contains all c = kept_from (same_primary f) cs c there ((bytes_eq-Decides f.primary.body c.primary.body).1 (sym own)) in
    let parts : List ComponentValue = flat_map (λ e. e.components) all in
    let part : (d : ComponentValue) → Contains c.components d → Contains parts d = λ d h. flat_in (λ (e : CertificateValue). e.components) d all c among h in
    record {
      primary = own;
      hangs = λ p h. has_like (flat_map (λ e. e.hangs) all) p (flat_in (λ (e : CertificateValue). e.hangs) p all c among h);
      heads = λ d h. has_head parts d (part d h);
      on = λ d e p h i same g. has_on parts d (part d h) e i same p g;
    }

pub merged_has : (r : KeyringValue) (c m : CertificateValue) → Contains r.certificates c → Contains (merged_of r).certificates m → same_primary c m ≡ true → HasAll c m
merged_has r c m there united same =
    let made = from_map (united_certificate r.certificates) (firsts same_primary r.certificates) m united in
    let own : c.primary.body ≡ made.0.primary.body = (bytes_eq-Decides c.primary.body m.primary.body).0 same ∙ sym (ap (λ (e : CertificateValue). e.primary.body) made.2) in
    subst (λ (e : CertificateValue). HasAll c e) made.2 (united_has r.certificates c made.0 there own)

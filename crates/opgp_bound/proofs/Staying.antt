-- What stays of a certificate, part by part.
use Rattle.std.proofs.Common.{◌≡◌, ◌⊎◌, inl, inr, Bool, true, false, List, [], ◌∷◌, map, refl, if◌then◌else◌, All}
use Rattle.std.specs.Prelude.{◌||◌}
use Rattle.std.specs.List.{Contains, filter, flat_map}
use Rattle.std.proofs.lemmas.List.Elements.{All-cons, All-contains, All-contains_itself, All-head, All-nil, All-weaker, Contains-append_left, Contains-append_right}
use Rattle.opgp_frame.specs.Packet.{PacketValue}
use Rattle.opgp_hash.specs.declared.fingerprints.Fingerprint.{Fingerprint}
use Rattle.opgp_keyring.specs.Keyring.{CertificateValue}
use Rattle.opgp_report.specs.declared.verifier.Verdict.{Verdict}
use Rattle.opgp_valid.specs.declared.known_keys.Known.{Known}
use Rattle.opgp_bound.specs.Bound.{bound_certificate, component_stays, components_in, is_bound, is_genuine, kept, kept_certificate, kept_component, left_behind, own_in, packets_of, revokes, role_stays}
use Rattle.opgp_bound.specs.Judged.{JudgedComponentValue, JudgedValue}
use Rattle.opgp_bound.specs.Staying.{HasOn}
use Rattle.opgp_bound.specs.declared.role.Role.{Role}
use Rattle.opgp_bound.specs.declared.role.Role.TheVariants.{SelfSignature, KeyRevocation, Other}

-- ---- lists
first_in : {X : Type 0} (x : X) (xs : List X) → Contains (x ∷ xs) x
first_in x xs = All-head (Contains (x ∷ xs)) x xs (All-contains_itself (x ∷ xs))

later_in : {X : Type 0} (y : X) (xs : List X) (x : X) → Contains xs x → Contains (y ∷ xs) x
later_in y xs x h = Contains-append_right (y ∷ []) xs x h

module _ {X Y : Type 0} (P : X → Bool) (f : X → Y) where
  abbrev Mapped : List X → X → Type 0
  Mapped xs x = P x ≡ true → Contains (map f (filter P xs)) (f x)

  all_mapped : (xs : List X) → All (Mapped xs) xs
  all_mapped [] = All-nil (Mapped [])
  all_mapped (x ∷ xs) = All-cons (Mapped (x ∷ xs)) x xs (first (P x)) (All-weaker (Mapped xs) (Mapped (x ∷ xs)) (later (P x)) xs (all_mapped xs)) where
    first : (b : Bool) → b ≡ true → Contains (map f (if b then x ∷ filter P xs else filter P xs)) (f x)
    first true e = first_in (f x) (map f (filter P xs))
    first false e = absurd (cc e)

    later : (b : Bool) (z : X) → Mapped xs z → P z ≡ true → Contains (map f (if b then x ∷ filter P xs else filter P xs)) (f z)
    later true z h e = later_in (f x) (map f (filter P xs)) (f z) (h e)
    later false z h e = h e

  -- what passes the test is among what is made of those that pass it
  pub mapped_in : (xs : List X) (x : X) → Contains xs x → P x ≡ true → Contains (map f (filter P xs)) (f x)
  mapped_in xs x h = All-contains (Mapped xs) xs x (all_mapped xs) h

module _ {X Y : Type 0} (f : X → List Y) (y : Y) where
  abbrev Among : List X → X → Type 0
  Among xs x = Contains (f x) y → Contains (flat_map f xs) y

  all_among : (xs : List X) → All (Among xs) xs
  all_among [] = All-nil (Among [])
  all_among (x ∷ xs) = All-cons (Among (x ∷ xs)) x xs (λ h. Contains-append_left (f x) (flat_map f xs) y h)
      (All-weaker (Among xs) (Among (x ∷ xs)) (λ z h e. Contains-append_right (f x) (flat_map f xs) y (h e)) xs (all_among xs))

  -- what is among the items of one of a list is among those of all
  pub flat_in : (xs : List X) (x : X) → Contains xs x → Contains (f x) y → Contains (flat_map f xs) y
  flat_in xs x h = All-contains (Among xs) xs x (all_among xs) h

-- ---- what stays
stays_if_genuine : (r : Role) → is_genuine r ≡ true → role_stays r ≡ true
stays_if_genuine (SelfSignature genuine) e = e
stays_if_genuine KeyRevocation e = refl
stays_if_genuine Other e = refl

abbrev Binds : List JudgedValue → JudgedValue → Type 0
Binds js j = is_genuine j.role ≡ true → is_bound js ≡ true

all_bind : (js : List JudgedValue) → All (Binds js) js
all_bind [] = All-nil (Binds [])
all_bind (j ∷ js) = All-cons (Binds (j ∷ js)) j js (first (is_genuine j.role)) (All-weaker (Binds js) (Binds (j ∷ js)) (later (is_genuine j.role)) js (all_bind js)) where
  first : (b : Bool) → b ≡ true → (b || is_bound js) ≡ true
  first true e = refl
  first false e = absurd (cc e)

  later : (b : Bool) (k : JudgedValue) → Binds js k → is_genuine k.role ≡ true → (b || is_bound js) ≡ true
  later true k h e = refl
  later false k h e = h e

bound_if_genuine : (js : List JudgedValue) (j : JudgedValue) → Contains js j → is_genuine j.role ≡ true → is_bound js ≡ true
bound_if_genuine js j h = All-contains (Binds js) js j (all_bind js) h

stays_if_bound : (a b : Bool) → a ≡ true → (a || b) ≡ true
stays_if_bound true b e = refl
stays_if_bound false b e = absurd (cc e)

kept_in : (js : List JudgedValue) (j : JudgedValue) → Contains js j → role_stays j.role ≡ true → Contains (kept js) j.packet
kept_in js j h e = mapped_in (λ (k : JudgedValue). role_stays k.role) (λ (k : JudgedValue). k.packet) js j h e

stays_with : (p : PacketValue) (hangs : List JudgedValue) (cs : List JudgedComponentValue) (d : JudgedComponentValue) → Contains cs d → component_stays d ≡ true → (j : JudgedValue) → Contains d.hangs j → role_stays j.role ≡ true
    → HasOn (kept_certificate p hangs cs) d.head j.packet
stays_with p hangs cs d there stays j h e = (kept_component d, mapped_in component_stays kept_component cs d there stays, refl, kept_in d.hangs j h e)

left_in : (cs : List JudgedComponentValue) (d : JudgedComponentValue) → Contains cs d → component_stays d ≡ false → (j : JudgedValue) → Contains d.hangs j → revokes j.role ≡ true → Contains (flat_map left_behind cs) j.packet
left_in cs d there goes j h e = flat_in left_behind j.packet cs d there (left (component_stays d) goes) where
  left : (b : Bool) → b ≡ false → Contains (if b then [] else packets_of (filter (λ k. revokes k.role) d.hangs)) j.packet
  left true is = absurd (cc is)
  left false is = mapped_in (λ (k : JudgedValue). revokes k.role) (λ (k : JudgedValue). k.packet) d.hangs j h e

stays_if_revoking : (r : Role) → revokes r ≡ true → role_stays r ≡ true
stays_if_revoking (SelfSignature genuine) e = absurd (cc e)
stays_if_revoking KeyRevocation e = refl
stays_if_revoking Other e = refl

-- ---- of a certificate
module _ (known : List Known) (issuers : List Fingerprint) (c : CertificateValue) (founds : List Verdict) where
  pub own_stay : (j : JudgedValue) → Contains (own_in known c founds) j → role_stays j.role ≡ true → Contains (bound_certificate known issuers c founds).hangs j.packet
  own_stay j h e = Contains-append_left (kept (own_in known c founds)) (flat_map left_behind (components_in known issuers c founds)) j.packet (kept_in (own_in known c founds) j h e)

  pub genuine_own_stay : (j : JudgedValue) → Contains (own_in known c founds) j → is_genuine j.role ≡ true → Contains (bound_certificate known issuers c founds).hangs j.packet
  genuine_own_stay j h e = own_stay j h (stays_if_genuine j.role e)

  module _ (d : JudgedComponentValue) (there : Contains (components_in known issuers c founds) d) where
    pub stay_with : component_stays d ≡ true → (j : JudgedValue) → Contains d.hangs j → role_stays j.role ≡ true → HasOn (bound_certificate known issuers c founds) d.head j.packet
    stay_with stays j h e = stays_with c.primary (own_in known c founds) (components_in known issuers c founds) d there stays j h e

    pub genuine_stay : (j : JudgedValue) → Contains d.hangs j → is_genuine j.role ≡ true → HasOn (bound_certificate known issuers c founds) d.head j.packet
    genuine_stay j h e = stay_with (stays_if_bound (is_bound d.hangs) d.is_issuer (bound_if_genuine d.hangs j h e)) j h (stays_if_genuine j.role e)

    pub revocations_stay : (j : JudgedValue) → Contains d.hangs j → revokes j.role ≡ true
        → HasOn (bound_certificate known issuers c founds) d.head j.packet ⊎ Contains (bound_certificate known issuers c founds).hangs j.packet
    revocations_stay j h e = go (component_stays d) refl where
      go : (b : Bool) → component_stays d ≡ b → HasOn (bound_certificate known issuers c founds) d.head j.packet ⊎ Contains (bound_certificate known issuers c founds).hangs j.packet
      go true is = inl (stay_with is j h (stays_if_revoking j.role e))
      go false is = inr (Contains-append_right (kept (own_in known c founds)) (flat_map left_behind (components_in known issuers c founds)) j.packet (left_in (components_in known issuers c founds) d there is j h e))

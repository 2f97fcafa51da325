-- Where the signatures on a certificate hang that aren't embedded.
use Rattle.std.proofs.Common.{◌≡◌, ◌∙◌, ◌+◌, ℕ, zero, suc, Bool, true, false, List, [], ◌∷◌, Option, Some, None, is_none, refl, sym, ap, subst, if◌then◌else◌, slice_get, arith, inl, inr, true≢false}
use Rattle.std.specs.List.{Contains}
use Rattle.std.proofs.lemmas.List.Elements.{Contains-append_cases, Contains-append_left, Contains-append_right}
use Rattle.std.proofs.lemmas.Option.{get_or_from_slice_get, same_Some, slice_get-get_or, slice_get_within}
use Rattle.opgp_frame.specs.Packet.{PacketValue}
use Rattle.opgp_packet.specs.SignatureBody.{signature_at}
use Rattle.opgp_hash.specs.SubjectValue.{SubjectValue, one}
use Rattle.opgp_hash.specs.declared.site.Site.TheVariants.{Embedded, Hung}
use Rattle.opgp_keyring.specs.Keyring.{CertificateValue, ComponentValue}
use Rattle.opgp_report.specs.Standing.{Standing, bodies_within, by_number, certificate_standing, component_standing, hang_standing, hangs_standing, hung_at, is_signature, nested_at, nested_standing, on_head, signature_standing, stands}
use Rattle.opgp_report.specs.declared.place.Place.{Place}
use Rattle.opgp_valid.proofs.Members.{member_cases, member_here, none_in}
use Rattle.opgp_bound.proofs.Issuing.{single}

-- ---- items by their number
pub member_at : {X : Type 0} (xs : List X) (i : ℕ) (x : X) → slice_get xs i ≡ Some x → Contains xs x
member_at xs i x e = (i, slice_get_within xs i x e, get_or_from_slice_get xs i x x e)

pub at_member : {X : Type 0} (xs : List X) (x : X) (h : Contains xs x) → slice_get xs h.0 ≡ Some x
at_member xs x h = slice_get-get_or xs h.0 x h.1 ∙ ap Some h.2

same_number : (n : ℕ) → n ≡ n + 0
same_number n = omega arith

next_number : (n i : ℕ) → (n + 1) + i ≡ n + suc i
next_number n i = omega arith

from_first : (i : ℕ) → 0 + i ≡ i
from_first i = omega arith

from_numbers : {A B : Type 0} (make : ℕ → A → List B) (n : ℕ) (xs : List A) (y : B) → Contains (by_number make n xs) y → (i : ℕ) × (x : A) × (slice_get xs i ≡ Some x) × Contains (make (n + i) x) y
from_numbers make n [] y h = absurd (none_in y h)
from_numbers make n (x ∷ xs) y h = elim (Contains-append_cases (make n x) (by_number make (n + 1) xs) y h) [
  | inl a ↦ (0, x, refl, subst (λ (m : ℕ). Contains (make m x) y) (same_number n) a)
  | inr b ↦ let r = from_numbers make (n + 1) xs y b in (suc r.0, r.1, r.2, subst (λ (m : ℕ). Contains (make m r.1) y) (next_number n r.0) r.3)
]

to_numbers : {A B : Type 0} (make : ℕ → A → List B) (n : ℕ) (xs : List A) (i : ℕ) (x : A) (y : B) → slice_get xs i ≡ Some x → Contains (make (n + i) x) y → Contains (by_number make n xs) y
to_numbers make n [] i x y e h = absurd (cc e)
to_numbers {A} make n (z ∷ xs) zero x y e h =
    let here : Contains (make n x) y = subst (λ (m : ℕ). Contains (make m x) y) (sym (same_number n)) h in
    Contains-append_left (make n z) (by_number make (n + 1) xs) y (subst (λ (w : A). Contains (make n w) y) (sym (same_Some z x e)) here)
to_numbers make n (z ∷ xs) (suc i) x y e h =
    Contains-append_right (make n z) (by_number make (n + 1) xs) y (to_numbers make (n + 1) xs i x y e (subst (λ (m : ℕ). Contains (make m x) y) (sym (next_number n i)) h))

from_number : {A B : Type 0} (make : ℕ → A → List B) (xs : List A) (y : B) → Contains (by_number make 0 xs) y → (i : ℕ) × (x : A) × (slice_get xs i ≡ Some x) × Contains (make i x) y
from_number make xs y h =
    let r = from_numbers make 0 xs y h in
    (r.0, r.1, r.2, subst (λ (m : ℕ). Contains (make m r.1) y) (from_first r.0) r.3)

to_number : {A B : Type 0} (make : ℕ → A → List B) (xs : List A) (i : ℕ) (x : A) (y : B) → slice_get xs i ≡ Some x → Contains (make i x) y → Contains (by_number make 0 xs) y
to_number make xs i x y e h = to_numbers make 0 xs i x y e (subst (λ (m : ℕ). Contains (make m x) y) (sym (from_first i)) h)

-- ---- on a key or a component
-- the row of a signature that hangs there
abbrev pub outer_row : Option ℕ → ℕ → SubjectValue → List ℕ → Standing
outer_row component n subject body = stands Hung (hung_at 0 component n) subject body

from_nested : (place : Place) (subject : SubjectValue) (bodies : List (List ℕ)) (s : Standing) → Contains (by_number (nested_standing place subject) 0 bodies) s → is_none s.place.nested ≡ false
from_nested place subject bodies s h =
    let r = from_number (nested_standing place subject) bodies s h in
    ap (λ (t : Standing). is_none t.place.nested) (sym (single (stands Embedded (nested_at place r.0) subject r.1) s r.3))

from_signature : (place : Place) (subject : SubjectValue) (body : List ℕ) (s : Standing) → Contains (signature_standing place subject body) s → is_none s.place.nested ≡ true → s ≡ stands Hung place subject body
from_signature place subject body s h e = elim (member_cases (stands Hung place subject body) s (by_number (nested_standing place subject) 0 (bodies_within subject (signature_at body))) h) [
  | inl is ↦ sym is
  | inr b ↦ absurd (true≢false (sym e ∙ from_nested place subject (bodies_within subject (signature_at body)) s b))
]

module _ (component : Option ℕ) (subject : SubjectValue) where
  from_hang : (n : ℕ) (p : PacketValue) (s : Standing) → Contains (hang_standing 0 component subject n p) s → is_none s.place.nested ≡ true → (is_signature p ≡ true) × (s ≡ outer_row component n subject p.body)
  from_hang n p s h e = go (is_signature p) refl h where
    go : (b : Bool) → is_signature p ≡ b → Contains (if b then signature_standing (hung_at 0 component n) subject p.body else []) s → (is_signature p ≡ true) × (s ≡ outer_row component n subject p.body)
    go true is g = (is, from_signature (hung_at 0 component n) subject p.body s g e)
    go false is g = absurd (none_in s g)

  to_hang : (n : ℕ) (p : PacketValue) → is_signature p ≡ true → Contains (hang_standing 0 component subject n p) (outer_row component n subject p.body)
  to_hang n p e = go (is_signature p) e where
    go : (b : Bool) → b ≡ true → Contains (if b then signature_standing (hung_at 0 component n) subject p.body else []) (outer_row component n subject p.body)
    go true is = member_here (outer_row component n subject p.body) (by_number (nested_standing (hung_at 0 component n) subject) 0 (bodies_within subject (signature_at p.body)))
    go false is = absurd (cc is)

  from_hangs : (ps : List PacketValue) (s : Standing) → Contains (hangs_standing 0 component subject ps) s → is_none s.place.nested ≡ true
      → (n : ℕ) × (p : PacketValue) × Contains ps p × (is_signature p ≡ true) × (s ≡ outer_row component n subject p.body)
  from_hangs ps s h e =
      let r = from_number (hang_standing 0 component subject) ps s h in
      let g = from_hang r.0 r.1 s r.3 e in
      (r.0, r.1, member_at ps r.0 r.1 r.2, g.0, g.1)

  to_hangs : (ps : List PacketValue) (p : PacketValue) → Contains ps p → is_signature p ≡ true → (n : ℕ) × Contains (hangs_standing 0 component subject ps) (outer_row component n subject p.body)
  to_hangs ps p h e = (h.0, to_number (hang_standing 0 component subject) ps h.0 p (outer_row component h.0 subject p.body) (at_member ps p h) (to_hang h.0 p e))

-- ---- on a certificate
-- a packet hangs on the primary key, or on the component of this number, over this subject
abbrev pub HangsOn : CertificateValue → Option ℕ → SubjectValue → PacketValue → Type 0
HangsOn c None subject p = (subject ≡ one c.primary.body) × Contains c.hangs p
HangsOn c (Some n) subject p =
    (d : ComponentValue) × (slice_get c.components n ≡ Some d) × (subject ≡ on_head c.primary.body d.head) × Contains d.hangs p

-- it is the signature in such a packet
pub record IsOuter (c : CertificateValue) (s : Standing) : Type 0 where
  pub component : Option ℕ
  pub number : ℕ
  pub subject : SubjectValue
  pub packet : PacketValue
  pub signs : is_signature packet ≡ true
  pub hangs : HangsOn c component subject packet
  pub is : s ≡ outer_row component number subject packet.body

pub from_rows : (c : CertificateValue) (s : Standing) → Contains (certificate_standing 0 c) s → is_none s.place.nested ≡ true → IsOuter c s
from_rows c s h e = elim (Contains-append_cases (hangs_standing 0 None (one c.primary.body) c.hangs) (by_number (component_standing c.primary.body 0) 0 c.components) s h) [ inl a ↦ on_primary a | inr b ↦ on_component b ] where
  on_primary : Contains (hangs_standing 0 None (one c.primary.body) c.hangs) s → IsOuter c s
  on_primary a =
      let r = from_hangs None (one c.primary.body) c.hangs s a e in
      record { component = None; number = r.0; subject = one c.primary.body; packet = r.1; signs = r.3; hangs = (refl, r.2); is = r.4 }

  on_component : Contains (by_number (component_standing c.primary.body 0) 0 c.components) s → IsOuter c s
  on_component b =
      let q = from_number (component_standing c.primary.body 0) c.components s b in
      let r = from_hangs (Some q.0) (on_head c.primary.body q.1.head) q.1.hangs s q.3 e in
      record { component = Some q.0; number = r.0; subject = on_head c.primary.body q.1.head; packet = r.1; signs = r.3; hangs = (q.1, q.2, refl, r.2); is = r.4 }

pub to_rows : (c : CertificateValue) (component : Option ℕ) (subject : SubjectValue) (p : PacketValue) → HangsOn c component subject p → is_signature p ≡ true
    → (n : ℕ) × Contains (certificate_standing 0 c) (outer_row component n subject p.body)
to_rows c None subject p on e =
    let r = to_hangs None subject c.hangs p on.1 e in (
      r.0,
      Contains-append_left (hangs_standing 0 None (one c.primary.body) c.hangs) (by_number (component_standing c.primary.body 0) 0 c.components) (outer_row None r.0 subject p.body)
          (subst (λ (t : SubjectValue). Contains (hangs_standing 0 None t c.hangs) (outer_row None r.0 subject p.body)) on.0 r.1),
    )
to_rows c (Some n) subject p on e =
    let r = to_hangs (Some n) subject on.0.hangs p on.3 e in (
      r.0,
      Contains-append_right (hangs_standing 0 None (one c.primary.body) c.hangs) (by_number (component_standing c.primary.body 0) 0 c.components) (outer_row (Some n) r.0 subject p.body)
          (to_number (component_standing c.primary.body 0) c.components n on.0 (outer_row (Some n) r.0 subject p.body) on.1
          (subst (λ (t : SubjectValue). Contains (hangs_standing 0 (Some n) t on.0.hangs) (outer_row (Some n) r.0 subject p.body)) on.2 r.1)),
    )

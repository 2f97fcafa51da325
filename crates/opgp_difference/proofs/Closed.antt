-- What an entry of a keyring hangs on is an entry of it too.
use Rattle.std.proofs.Common.{◌≡◌, ◌∙◌, ℕ, ◌+◌, Bool, true, false, cond, List, [], ◌∷◌, ◌++◌, Option, Some, None, refl, sym, ap, ◌⊎◌, inl, inr, ⊎_elim}
use Rattle.std.specs.Prelude.{◌||◌}
use Rattle.opgp_octets.specs.declared.packet_type.PacketType.TheVariants as packet
use Rattle.opgp_frame.specs.Header.{is_type}
use Rattle.opgp_frame.specs.Packet.{PacketValue}
use Rattle.opgp_keyring.specs.Keyring.{CertificateValue, ComponentValue, KeyringValue}
use Rattle.opgp_difference.specs.Entries.{Entry, Name, Standing, certificate_standing, component_standing, hang_standing, is_in, numbered, packet_name, place_of, same_entry, same_name, hangs_on, standing_in}
use Rattle.opgp_difference.proofs.Members.{in_append}
use Rattle.opgp_difference.proofs.Same.{entries_decide, false_true, right_true}

-- each has a name of its own, and what it hangs on is there
pub record IsClosed (all : List Standing) : Type 0 where
  pub named : is_in all [] ≡ false
  pub above : (n m : Name) (e : Entry) → is_in all (n ∷ m ∷ e) ≡ true → is_in all (m ∷ e) ≡ true

either : (a b : Bool) → (a || b) ≡ true → (a ≡ true) ⊎ (b ≡ true)
either true b h = inl refl
either false b h = inr h

or_left : (a b : Bool) → a ≡ true → (a || b) ≡ true
or_left a b h = rw h refl

or_right : (a b : Bool) → b ≡ true → (a || b) ≡ true
or_right true b h = refl
or_right false b h = h

from_append : (xs ys : List Standing) (e : Entry) → is_in (xs ++ ys) e ≡ true → (is_in xs e ≡ true) ⊎ (is_in ys e ≡ true)
from_append xs ys e h = either (is_in xs e) (is_in ys e) (sym (in_append xs ys e) ∙ h)

in_left : (xs ys : List Standing) (e : Entry) → is_in xs e ≡ true → is_in (xs ++ ys) e ≡ true
in_left xs ys e h = in_append xs ys e ∙ or_left (is_in xs e) (is_in ys e) h

in_right : (xs ys : List Standing) (e : Entry) → is_in ys e ≡ true → is_in (xs ++ ys) e ≡ true
in_right xs ys e h = in_append xs ys e ∙ or_right (is_in xs e) (is_in ys e) h

same_refl : (e : Entry) → same_entry e e ≡ true
same_refl e = (entries_decide e e).1 refl

-- ---- what hangs on an entry
hang_rests : (top : Entry) (certificate : ℕ) (component : Option ℕ) (k : ℕ) (p : PacketValue) (n : Name) (e : Entry) → is_in (hang_standing top certificate component k p) (n ∷ e) ≡ true → e ≡ top
hang_rests top certificate component k p n e h = by (is_type packet.Signature p.kind) h
  where
    by : (b : Bool) → is_in (cond b (hangs_on top (place_of certificate component (Some k)) p ∷ []) []) (n ∷ e) ≡ true → e ≡ top
    by true g = ⊎_elim
        (λ (i : same_entry (n ∷ e) (packet_name p ∷ top) ≡ true). (entries_decide e top).0 (right_true (same_name n (packet_name p)) (same_entry e top) i))
        (λ (i : false ≡ true). false_true i)
        (either (same_entry (n ∷ e) (packet_name p ∷ top)) false g)
    by false g = false_true g

hangs_rest : (top : Entry) (certificate : ℕ) (component : Option ℕ) (k : ℕ) (ps : List PacketValue) (n : Name) (e : Entry) → is_in (numbered (hang_standing top certificate component) k ps) (n ∷ e) ≡ true → e ≡ top
hangs_rest top certificate component k [] n e h = false_true h
hangs_rest top certificate component k (p ∷ ps) n e h = ⊎_elim
    (λ (i : is_in (hang_standing top certificate component k p) (n ∷ e) ≡ true). hang_rests top certificate component k p n e i)
    (λ (i : is_in (numbered (hang_standing top certificate component) (k + 1) ps) (n ∷ e) ≡ true). hangs_rest top certificate component (k + 1) ps n e i)
    (from_append (hang_standing top certificate component k p) (numbered (hang_standing top certificate component) (k + 1) ps) (n ∷ e) h)

component_rests : (top : Entry) (certificate k : ℕ) (c : ComponentValue) (n : Name) (e : Entry) → is_in (component_standing top certificate k c) (n ∷ e) ≡ true
    → (e ≡ top) ⊎ (is_in (component_standing top certificate k c) e ≡ true)
component_rests top certificate k c n e h = ⊎_elim
    (λ (i : same_entry (n ∷ e) (packet_name c.head ∷ top) ≡ true). inl ((entries_decide e top).0 (right_true (same_name n (packet_name c.head)) (same_entry e top) i)))
    (λ (i : is_in (numbered (hang_standing (packet_name c.head ∷ top) certificate (Some k)) 0 c.hangs) (n ∷ e) ≡ true).
    let is : e ≡ packet_name c.head ∷ top = hangs_rest (packet_name c.head ∷ top) certificate (Some k) 0 c.hangs n e i in
    inr (or_left (same_entry e (packet_name c.head ∷ top)) (is_in (numbered (hang_standing (packet_name c.head ∷ top) certificate (Some k)) 0 c.hangs) e) ((entries_decide e (packet_name c.head ∷ top)).1 is)))
    (either (same_entry (n ∷ e) (packet_name c.head ∷ top)) (is_in (numbered (hang_standing (packet_name c.head ∷ top) certificate (Some k)) 0 c.hangs) (n ∷ e)) h)

components_rest : (top : Entry) (certificate k : ℕ) (cs : List ComponentValue) (n : Name) (e : Entry) → is_in (numbered (component_standing top certificate) k cs) (n ∷ e) ≡ true
    → (e ≡ top) ⊎ (is_in (numbered (component_standing top certificate) k cs) e ≡ true)
components_rest top certificate k [] n e h = false_true h
components_rest top certificate k (c ∷ cs) n e h = ⊎_elim
    (λ (i : is_in (component_standing top certificate k c) (n ∷ e) ≡ true). ⊎_elim
    (λ (j : e ≡ top). inl j)
    (λ (j : is_in (component_standing top certificate k c) e ≡ true). inr (in_left (component_standing top certificate k c) (numbered (component_standing top certificate) (k + 1) cs) e j))
    (component_rests top certificate k c n e i))
    (λ (i : is_in (numbered (component_standing top certificate) (k + 1) cs) (n ∷ e) ≡ true). ⊎_elim
    (λ (j : e ≡ top). inl j)
    (λ (j : is_in (numbered (component_standing top certificate) (k + 1) cs) e ≡ true). inr (in_right (component_standing top certificate k c) (numbered (component_standing top certificate) (k + 1) cs) e j))
    (components_rest top certificate (k + 1) cs n e i))
    (from_append (component_standing top certificate k c) (numbered (component_standing top certificate) (k + 1) cs) (n ∷ e) h)

certificate_rests : (k : ℕ) (c : CertificateValue) (n m : Name) (e : Entry) → is_in (certificate_standing k c) (n ∷ m ∷ e) ≡ true → is_in (certificate_standing k c) (m ∷ e) ≡ true
certificate_rests k c n m e h =
    let top : Entry = packet_name c.primary ∷ [] in
    let hangs : List Standing = numbered (hang_standing top k None) 0 c.hangs in
    let components : List Standing = numbered (component_standing top k) 0 c.components in
    let at_top : m ∷ e ≡ top → is_in (certificate_standing k c) (m ∷ e) ≡ true = λ is. or_left (same_entry (m ∷ e) top) (is_in (hangs ++ components) (m ∷ e)) ((entries_decide (m ∷ e) top).1 is) in
    ⊎_elim
    (λ (i : same_entry (n ∷ m ∷ e) top ≡ true). false_true (right_true (same_name n (packet_name c.primary)) false i))
    (λ (i : is_in (hangs ++ components) (n ∷ m ∷ e) ≡ true). ⊎_elim
    (λ (j : is_in hangs (n ∷ m ∷ e) ≡ true). at_top (hangs_rest top k None 0 c.hangs n (m ∷ e) j))
    (λ (j : is_in components (n ∷ m ∷ e) ≡ true). ⊎_elim
    (λ (l : m ∷ e ≡ top). at_top l)
    (λ (l : is_in components (m ∷ e) ≡ true). or_right (same_entry (m ∷ e) top) (is_in (hangs ++ components) (m ∷ e)) (in_right hangs components (m ∷ e) l))
    (components_rest top k 0 c.components n (m ∷ e) j))
    (from_append hangs components (n ∷ m ∷ e) i))
    (either (same_entry (n ∷ m ∷ e) top) (is_in (hangs ++ components) (n ∷ m ∷ e)) h)

certificates_rest : (k : ℕ) (cs : List CertificateValue) (n m : Name) (e : Entry) → is_in (numbered certificate_standing k cs) (n ∷ m ∷ e) ≡ true → is_in (numbered certificate_standing k cs) (m ∷ e) ≡ true
certificates_rest k [] n m e h = false_true h
certificates_rest k (c ∷ cs) n m e h = ⊎_elim
    (λ (i : is_in (certificate_standing k c) (n ∷ m ∷ e) ≡ true). in_left (certificate_standing k c) (numbered certificate_standing (k + 1) cs) (m ∷ e) (certificate_rests k c n m e i))
    (λ (i : is_in (numbered certificate_standing (k + 1) cs) (n ∷ m ∷ e) ≡ true). in_right (certificate_standing k c) (numbered certificate_standing (k + 1) cs) (m ∷ e) (certificates_rest (k + 1) cs n m e i))
    (from_append (certificate_standing k c) (numbered certificate_standing (k + 1) cs) (n ∷ m ∷ e) h)

-- ---- none has no name
no_hang : (top : Entry) (certificate : ℕ) (component : Option ℕ) (k : ℕ) (ps : List PacketValue) → is_in (numbered (hang_standing top certificate component) k ps) [] ≡ false
no_hang top certificate component k [] = refl
no_hang top certificate component k (p ∷ ps) =
    in_append (hang_standing top certificate component k p) (numbered (hang_standing top certificate component) (k + 1) ps) []
    ∙ by (is_type packet.Signature p.kind) ∙ no_hang top certificate component (k + 1) ps
  where
    by : (b : Bool) → (is_in (cond b (hangs_on top (place_of certificate component (Some k)) p ∷ []) []) [] || is_in (numbered (hang_standing top certificate component) (k + 1) ps) []) ≡ is_in (numbered (hang_standing top certificate component) (k + 1) ps) []
    by true = refl
    by false = refl

no_component : (top : Entry) (certificate k : ℕ) (cs : List ComponentValue) → is_in (numbered (component_standing top certificate) k cs) [] ≡ false
no_component top certificate k [] = refl
no_component top certificate k (c ∷ cs) =
    in_append (component_standing top certificate k c) (numbered (component_standing top certificate) (k + 1) cs) []
    ∙ ap (λ (b : Bool). b || is_in (numbered (component_standing top certificate) (k + 1) cs) []) (no_hang (packet_name c.head ∷ top) certificate (Some k) 0 c.hangs)
    ∙ no_component top certificate (k + 1) cs

no_certificate : (k : ℕ) (cs : List CertificateValue) → is_in (numbered certificate_standing k cs) [] ≡ false
no_certificate k [] = refl
no_certificate k (c ∷ cs) =
    in_append (certificate_standing k c) (numbered certificate_standing (k + 1) cs) []
    ∙ ap (λ (b : Bool). b || is_in (numbered certificate_standing (k + 1) cs) [])
    (in_append (numbered (hang_standing (packet_name c.primary ∷ []) k None) 0 c.hangs) (numbered (component_standing (packet_name c.primary ∷ []) k) 0 c.components) []
    ∙ ap (λ (b : Bool). b || is_in (numbered (component_standing (packet_name c.primary ∷ []) k) 0 c.components) []) (no_hang (packet_name c.primary ∷ []) k None 0 c.hangs)
    ∙ no_component (packet_name c.primary ∷ []) k 0 c.components)
    ∙ no_certificate (k + 1) cs

pub closed : (r : KeyringValue) → IsClosed (standing_in r)
closed r = record { named = no_certificate 0 r.certificates; above = certificates_rest 0 r.certificates }

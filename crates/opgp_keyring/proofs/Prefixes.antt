-- What comes before in a keyring's packets is a keyring's too.
use Rattle.std.proofs.Common.{◌≡◌, ◌+◌, ◌≤◌, List, [], ◌∷◌, ◌++◌, All, refl, sym, ap, subst, ◌∙◌, append_assoc, append-nil, length, arith, ◌⊎◌, inl, inr}
use Rattle.std.specs.List.{flat_map}
use Rattle.std.proofs.lemmas.List.Concat.{flat_map-append}
use Rattle.std.proofs.lemmas.List.Elements.{All-head, All-tail, All-nil, All-cons, All-push}
use Rattle.opgp_octets.specs.declared.limits.Limits.{Limits}
use Rattle.opgp_octets.specs.Limits.{cert_limit}
use Rattle.opgp_frame.specs.Packet.{PacketValue, spelling}
use Rattle.opgp_keyring.specs.Composition.{AreKeyring, FitsLimits}
use Rattle.opgp_keyring.specs.Keyring.{CertificateValue, ComponentValue, IsKeyring, IsCertificate, IsComponent, IsFiller, IsHung, component_packets, certificate_packets, flat, octets_of}
use Rattle.opgp_keyring.proofs.Adding.{keyring, IsShort, octets_of-push, grown_whole}

-- a list is empty or has a last element
abbrev pub Ends : {X : Type 0} → List X → Type 0
Ends {X} xs = (xs ≡ []) ⊎ ((front : List X) × (last : X) × (xs ≡ front ++ last ∷ []))

pub ends : {X : Type 0} (xs : List X) → Ends xs
ends [] = inl refl
ends {X} (x ∷ xs) = elim (ends xs) [ inl e ↦ inr ([], x, ap (λ (l : List X). x ∷ l) e) | inr w ↦ inr (x ∷ w.0, w.1, ap (λ (l : List X). x ∷ l) w.2) ]

front_of : {X : Type 0} (P : X → Type 0) (xs : List X) (x : X) → All P (xs ++ x ∷ []) → All P xs × P x
front_of P [] x a = (All-nil P, All-head P x [] a)
front_of P (y ∷ xs) x a =
    let again = front_of P xs x (All-tail P y (xs ++ x ∷ []) a) in
    (All-cons P y xs (All-head P y (xs ++ x ∷ []) a) again.0, again.1)

-- lists that end in one element each, and are equal, are equal before it
pub same_front : {X : Type 0} (xs ys : List X) (x y : X) → xs ++ x ∷ [] ≡ ys ++ y ∷ [] → xs ≡ ys
same_front [] [] x y e = refl
same_front [] (b ∷ []) x y e = absurd cc
same_front [] (b ∷ c ∷ ys) x y e = absurd cc
same_front (a ∷ []) [] x y e = absurd cc
same_front (a ∷ c ∷ xs) [] x y e = absurd cc
same_front {X} (a ∷ xs) (b ∷ ys) x y e =
    let head : a ≡ b = cc in
    let tail : xs ++ x ∷ [] ≡ ys ++ y ∷ [] = cc in
    ap (λ (z : X). z ∷ xs) head ∙ ap (λ (l : List X). b ∷ l) (same_front xs ys x y tail)

pub same_last : {X : Type 0} (xs ys : List X) (x y : X) → xs ++ x ∷ [] ≡ ys ++ y ∷ [] → x ≡ y
same_last [] [] x y e = cc
same_last [] (b ∷ []) x y e = absurd cc
same_last [] (b ∷ c ∷ ys) x y e = absurd cc
same_last (a ∷ []) [] x y e = absurd cc
same_last (a ∷ c ∷ xs) [] x y e = absurd cc
same_last (a ∷ xs) (b ∷ ys) x y e = same_last xs ys x y (let tail : xs ++ x ∷ [] ≡ ys ++ y ∷ [] = cc in tail)

-- a certificate without its last packet, or one that has no more
record OneLess (c : CertificateValue) : Type 0 where
  pub less : CertificateValue
  pub last : PacketValue
  pub packets : certificate_packets c ≡ certificate_packets less ++ last ∷ []
  pub is : IsCertificate less

-- the last component has nothing that hangs on it
less_head : (primary : PacketValue) (hangs : List PacketValue) (cs : List ComponentValue) (head : PacketValue) → IsCertificate (record { primary = primary; hangs = hangs; components = cs ++ (record { head = head; hangs = [] }) ∷ [] })
    → OneLess (record { primary = primary; hangs = hangs; components = cs ++ (record { head = head; hangs = [] }) ∷ [] })
less_head primary hangs cs head is =
    let k : ComponentValue = record { head = head; hangs = [] } in
    let before : List PacketValue = flat_map component_packets cs in
    record {
      less = record { primary = primary; hangs = hangs; components = cs };
      last = head;
      packets = ap (λ (l : List PacketValue). primary ∷ (hangs ++ l)) (flat_map-append component_packets cs (k ∷ [])) ∙ ap (λ (l : List PacketValue). primary ∷ l) (sym (append_assoc hangs before (head ∷ [])));
      is = record { primary = is.primary; hangs = is.hangs; components = (front_of IsComponent cs k is.components).0 };
    }

joined : (cs : List ComponentValue) (k : ComponentValue) → flat_map component_packets (cs ++ k ∷ []) ≡ flat_map component_packets cs ++ component_packets k
joined cs k = flat_map-append component_packets cs (k ∷ []) ∙ ap (λ (l : List PacketValue). flat_map component_packets cs ++ l) (append-nil (component_packets k))

-- or a last packet hangs on it
less_hang : (primary : PacketValue) (hangs : List PacketValue) (cs : List ComponentValue) (head : PacketValue) (hs : List PacketValue) (h : PacketValue)
    → IsCertificate (record { primary = primary; hangs = hangs; components = cs ++ (record { head = head; hangs = hs ++ h ∷ [] }) ∷ [] })
    → OneLess (record { primary = primary; hangs = hangs; components = cs ++ (record { head = head; hangs = hs ++ h ∷ [] }) ∷ [] })
less_hang primary hangs cs head hs h is =
    let k : ComponentValue = record { head = head; hangs = hs ++ h ∷ [] } in
    let new : ComponentValue = record { head = head; hangs = hs } in
    let before : List PacketValue = flat_map component_packets cs in
    let parts = front_of IsComponent cs k is.components in
    let whole : flat_map component_packets (cs ++ k ∷ []) ≡ flat_map component_packets (cs ++ new ∷ []) ++ h ∷ [] =
    joined cs k ∙ sym (append_assoc before (component_packets new) (h ∷ [])) ∙ ap (λ (l : List PacketValue). l ++ h ∷ []) (sym (joined cs new)) in
    record {
      less = record { primary = primary; hangs = hangs; components = cs ++ new ∷ [] };
      last = h;
      packets = ap (λ (l : List PacketValue). primary ∷ (hangs ++ l)) whole ∙ ap (λ (l : List PacketValue). primary ∷ l) (sym (append_assoc hangs (flat_map component_packets (cs ++ new ∷ [])) (h ∷ [])));
      is = record { primary = is.primary; hangs = is.hangs; components = All-push IsComponent cs new parts.0 (record { head = parts.1.head; hangs = (front_of IsHung hs h parts.1.hangs).0 }) };
    }

-- there is no component, and a last packet hangs on the primary key
less_own : (primary : PacketValue) (hs : List PacketValue) (h : PacketValue) → IsCertificate (record { primary = primary; hangs = hs ++ h ∷ []; components = [] }) → OneLess (record { primary = primary; hangs = hs ++ h ∷ []; components = [] })
less_own primary hs h is =
    record {
      less = record { primary = primary; hangs = hs; components = [] };
      last = h;
      packets = ap (λ (l : List PacketValue). primary ∷ l) (append-nil (hs ++ h ∷ []) ∙ ap (λ (l : List PacketValue). l ++ h ∷ []) (sym (append-nil hs)));
      is = record { primary = is.primary; hangs = (front_of IsHung hs h is.hangs).0; components = is.components };
    }

-- a certificate is its primary key alone, or has a last packet more
abbrev Less : CertificateValue → Type 0
Less c = ((c.hangs ≡ []) × (c.components ≡ [])) ⊎ OneLess c

less_by_hangs : (primary : PacketValue) (hangs : List PacketValue) → Ends hangs → IsCertificate (record { primary = primary; hangs = hangs; components = [] }) → Less (record { primary = primary; hangs = hangs; components = [] })
less_by_hangs primary hangs (inl e) is = inl (e, refl)
less_by_hangs primary hangs (inr (hs, h, e)) is =
    let P : List PacketValue → Type 0 = λ l. IsCertificate (record { primary = primary; hangs = l; components = [] }) → Less (record { primary = primary; hangs = l; components = [] }) in
    subst P (sym e) (λ k. inr (less_own primary hs h k)) is

less_by_last : (primary : PacketValue) (hangs : List PacketValue) (cs : List ComponentValue) (head : PacketValue) (own : List PacketValue) → Ends own → IsCertificate (record { primary = primary; hangs = hangs; components = cs ++ (record { head = head; hangs = own }) ∷ [] })
    → Less (record { primary = primary; hangs = hangs; components = cs ++ (record { head = head; hangs = own }) ∷ [] })
less_by_last primary hangs cs head own (inl e) is =
    let P : List PacketValue → Type 0 = λ l. IsCertificate (record { primary = primary; hangs = hangs; components = cs ++ (record { head = head; hangs = l }) ∷ [] }) → Less (record { primary = primary; hangs = hangs; components = cs ++ (record { head = head; hangs = l }) ∷ [] }) in
    subst P (sym e) (λ k. inr (less_head primary hangs cs head k)) is
less_by_last primary hangs cs head own (inr (hs, h, e)) is =
    let P : List PacketValue → Type 0 = λ l. IsCertificate (record { primary = primary; hangs = hangs; components = cs ++ (record { head = head; hangs = l }) ∷ [] }) → Less (record { primary = primary; hangs = hangs; components = cs ++ (record { head = head; hangs = l }) ∷ [] }) in
    subst P (sym e) (λ k. inr (less_hang primary hangs cs head hs h k)) is

less_by_components : (primary : PacketValue) (hangs : List PacketValue) (all : List ComponentValue) → Ends all → IsCertificate (record { primary = primary; hangs = hangs; components = all }) → Less (record { primary = primary; hangs = hangs; components = all })
less_by_components primary hangs all (inl e) is =
    let P : List ComponentValue → Type 0 = λ l. IsCertificate (record { primary = primary; hangs = hangs; components = l }) → Less (record { primary = primary; hangs = hangs; components = l }) in
    subst P (sym e) (λ k. less_by_hangs primary hangs (ends hangs) k) is
less_by_components primary hangs all (inr (cs, c, e)) is =
    let P : List ComponentValue → Type 0 = λ l. IsCertificate (record { primary = primary; hangs = hangs; components = l }) → Less (record { primary = primary; hangs = hangs; components = l }) in
    subst P (sym e) (λ k. less_by_last primary hangs cs c.head c.hangs (ends c.hangs) k) is

less_certificate : (c : CertificateValue) → IsCertificate c → Less c
less_certificate c is = less_by_components c.primary c.hangs c.components (ends c.components) is

-- ---- a keyring without its last packet

drop_lead : (limits : Limits) (lead ps : List PacketValue) (p : PacketValue) → IsKeyring (keyring lead []) → FitsLimits limits (keyring lead []) → flat (keyring lead []) ≡ ps ++ p ∷ [] → AreKeyring limits ps
drop_lead limits lead ps p is fits whole =
    let e : lead ≡ ps ++ p ∷ [] = sym (append-nil lead) ∙ whole in
    let fillers = front_of IsFiller ps p (subst (All IsFiller) e is.lead) in
    let short : octets_of lead ≡ octets_of ps + length (spelling p) = ap octets_of e ∙ octets_of-push ps p in (
      keyring ps [],
      record {
        keyring = record { lead = fillers.0; certificates = is.certificates };
        whole = append-nil ps;
        fits = record { lead = omega (arith, short, fits.lead); certificates = fits.certificates };
      },
    )

drop_last : (limits : Limits) (lead : List PacketValue) (done : List CertificateValue) (c : CertificateValue) (ps : List PacketValue) (p : PacketValue) → IsKeyring (keyring lead (done ++ c ∷ [])) → FitsLimits limits (keyring lead (done ++ c ∷ []))
    → flat (keyring lead (done ++ c ∷ [])) ≡ ps ++ p ∷ [] → Less c → AreKeyring limits ps
drop_last limits lead done c ps p is fits whole (inl alone) =
    let all = front_of IsCertificate done c is.certificates in
    let shorts = front_of (IsShort limits) done c fits.certificates in
    let own : certificate_packets c ≡ c.primary ∷ [] = ap (λ (hs : List PacketValue). c.primary ∷ (hs ++ flat_map component_packets c.components)) alone.0 ∙ ap (λ (cs : List ComponentValue). c.primary ∷ flat_map component_packets cs) alone.1 in
    let split : flat (keyring lead (done ++ c ∷ [])) ≡ flat (keyring lead done) ++ c.primary ∷ [] =
    ap (λ (l : List PacketValue). lead ++ l) (flat_map-append certificate_packets done (c ∷ []) ∙ ap (λ (l : List PacketValue). flat_map certificate_packets done ++ l) (append-nil (certificate_packets c) ∙ own))
    ∙ sym (append_assoc lead (flat_map certificate_packets done) (c.primary ∷ [])) in (
      keyring lead done,
      record {
        keyring = record { lead = is.lead; certificates = all.0 };
        whole = same_front (flat (keyring lead done)) ps c.primary p (sym split ∙ whole);
        fits = record { lead = fits.lead; certificates = shorts.0 };
      },
    )
drop_last limits lead done c ps p is fits whole (inr o) =
    let all = front_of IsCertificate done c is.certificates in
    let shorts = front_of (IsShort limits) done c fits.certificates in
    let split = grown_whole lead done o.less c o.last o.packets in
    let size : octets_of (certificate_packets c) ≡ octets_of (certificate_packets o.less) + length (spelling o.last) = ap octets_of o.packets ∙ octets_of-push (certificate_packets o.less) o.last in (
      keyring lead (done ++ o.less ∷ []),
      record {
        keyring = record { lead = is.lead; certificates = All-push IsCertificate done o.less all.0 o.is };
        whole = same_front (flat (keyring lead (done ++ o.less ∷ []))) ps o.last p (sym split ∙ whole);
        fits = record { lead = fits.lead; certificates = All-push (IsShort limits) done o.less shorts.0 (let last : octets_of (certificate_packets c) ≤ cert_limit limits = shorts.1 in omega (arith, size, last)) };
      },
    )

drop_in : (limits : Limits) (lead : List PacketValue) (all : List CertificateValue) (ps : List PacketValue) (p : PacketValue) → Ends all → IsKeyring (keyring lead all) → FitsLimits limits (keyring lead all) → flat (keyring lead all) ≡ ps ++ p ∷ [] → AreKeyring limits ps
drop_in limits lead all ps p (inl e) is fits whole =
    let P : List CertificateValue → Type 0 = λ l. IsKeyring (keyring lead l) → FitsLimits limits (keyring lead l) → flat (keyring lead l) ≡ ps ++ p ∷ [] → AreKeyring limits ps in
    subst P (sym e) (λ i f w. drop_lead limits lead ps p i f w) is fits whole
drop_in limits lead all ps p (inr (done, c, e)) is fits whole =
    let P : List CertificateValue → Type 0 = λ l. IsKeyring (keyring lead l) → FitsLimits limits (keyring lead l) → flat (keyring lead l) ≡ ps ++ p ∷ [] → AreKeyring limits ps in
    subst P (sym e) (λ i f w. drop_last limits lead done c ps p i f w (less_certificate c (front_of IsCertificate done c i.certificates).1)) is fits whole

without_last : (limits : Limits) (ps : List PacketValue) (p : PacketValue) → AreKeyring limits (ps ++ p ∷ []) → AreKeyring limits ps
without_last limits ps p (r, c) = drop_in limits r.lead r.certificates ps p (ends r.certificates) c.keyring c.fits c.whole

-- what begins a keyring's packets is a keyring's
pub prefix : (limits : Limits) (ps qs : List PacketValue) → AreKeyring limits (ps ++ qs) → AreKeyring limits ps
prefix limits ps [] k = subst (AreKeyring limits) (append-nil ps) k
prefix limits ps (q ∷ qs) k = without_last limits ps q (prefix limits (ps ++ q ∷ []) qs (subst (AreKeyring limits) (sym (append_assoc ps (q ∷ []) qs)) k))

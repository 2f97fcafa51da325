-- The steps of a composer, over its state.
use Rattle.std.proofs.Common.{◌≡◌, ℕ, ◌+◌, ◌-◌, ◌≤◌, ◌<◌, Bool, true, false, not, ◌||◌, ◌&&◌, ◌==◌, List, [], ◌∷◌, ◌++◌, length, Option, Some, None, is_some, refl, sym, ap, subst, ◌∙◌, append-nil, arith, inl, inr}
use Rattle.opgp_octets.specs.declared.limits.Limits.{Limits}
use Rattle.opgp_octets.specs.Limits.{cert_limit, malformed_of}
use Rattle.opgp_octets.specs.declared.fault.Reason.TheVariants.{NoPrimary, CertTooLong}
use Rattle.opgp_frame.specs.declared.packet.Placed.{Placed}
use Rattle.opgp_frame.specs.Packet.{PacketValue, spelling}
use Rattle.opgp_keyring.specs.declared.composer.State.{State}
use Rattle.opgp_keyring.specs.declared.composer.State.TheVariants.{Leading, Growing, Disordered, Broken, Spent}
use Rattle.opgp_keyring.specs.declared.ready.Ready.{Ready}
use Rattle.opgp_keyring.specs.Bodies.{HasNoFault}
use Rattle.opgp_keyring.specs.Composed.{PartValue, lead_parts, of_certificate}
use Rattle.opgp_keyring.specs.Composition.{Item, of_packet, packets_in, IsFaultAt, fault_at, stands_in_keyring, needs_primary, has_primary}
use Rattle.opgp_keyring.specs.Keyring.{CertificateValue, IsCertificate, IsFiller, IsPrimary, certificate_packets, octets_of, is_primary, is_head, is_hung, is_filler}
use Rattle.opgp_keyring.specs.declared.sorted.Sorted.{Sorted}
use Rattle.opgp_keyring.specs.declared.sorted.Sorted.TheVariants.{Primary, Behind, Filler, Stray}
use Rattle.opgp_keyring.specs.Sorted.{IsSorted}
use Rattle.opgp_keyring.specs.State.{has_begun, is_open, is_spent_state, ready_parts}
use Rattle.opgp_keyring.proofs.Adding.{fillers_lack, certificates_front, certificate_last, octets_of-push}
use Rattle.opgp_keyring.proofs.Feeding.{leads, leads_too_long, grows, grows_too_long, begins_first, begins_next, lacking_fault, long_fault, begun}
use Rattle.opgp_keyring.proofs.KindTests.{or_cases, or_left, or_right, primary_needs_none, filler_hung, filler_no_signature, hung_no_head}
use Rattle.opgp_keyring.proofs.Standing.{IsIn, IsLeading, IsGrowing}
use Rattle.opgp_keyring.proofs.States.{begins_long}
use Rattle.opgp_keyring.proofs.Values.{more_behind}

pub room_short : (m s o : ℕ) → s ≤ m → m - s < o → m < s + o
room_short m s o h k = omega arith

pub room_fits : (m s o : ℕ) → s ≤ m → o ≤ m - s → s + o ≤ m
room_fits m s o h k = omega arith

pub closed : (s : State) → ((x : List PacketValue) → s ≡ Leading x → ⊥) → ((x : CertificateValue) → s ≡ Growing x → ⊥) → is_open s ≡ false
closed (Leading lead) a b = absurd (a lead refl)
closed (Growing c) a b = absurd (b c refl)
closed (Disordered f) a b = refl
closed (Broken f) a b = refl
closed Spent a b = refl

pub closed_lead : (s : State) → ((x : List PacketValue) → s ≡ Leading x → ⊥) → has_begun s ≡ false → is_open s ≡ false
closed_lead s a none = closed s a (λ c e. let begun : has_begun s ≡ true = ap has_begun e in cc)

pub none_ready : (taken : List PartValue) (o : Option Ready) → is_some o ≡ false → taken ++ ready_parts o ≡ taken
none_ready taken None e = append-nil taken
none_ready taken (Some r) e = absurd cc

pub needs_behind : (k : ℕ) → needs_primary k ≡ true → (is_head k || is_hung k) ≡ true
needs_behind k n = elim (or_cases (k == 2) (is_head k) n) [ inl t ↦ or_right (is_head k) (is_hung k) (or_left (k == 2) (is_filler k) t) | inr t ↦ or_left (is_head k) (is_hung k) t ]

pub filler_behind : (k : ℕ) → is_filler k ≡ true → (is_head k || is_hung k) ≡ true
filler_behind k f = or_right (is_head k) (is_hung k) (filler_hung k f)

behind_stands : (k : ℕ) → (is_head k || is_hung k) ≡ true → stands_in_keyring k ≡ true
behind_stands k b = or_right (is_primary k) (is_head k || is_hung k) b

pub filler_free : (k : ℕ) → is_filler k ≡ true → needs_primary k ≡ false
filler_free k f = ap (λ (b : Bool). b || is_head k) (filler_no_signature k f) ∙ hung_no_head k (filler_hung k f)

-- no primary key came before
pub lead_lacks : (limits : Limits) (s : State) (lead : List PacketValue) (given : List Item) (parts : List PartValue) (p : Placed) → IsIn limits s given parts → s ≡ Leading lead → needs_primary p.packet.kind ≡ true
    → IsFaultAt limits (packets_in given) (of_packet p) (fault_at NoPrimary p.block p.pos)
lead_lacks limits s lead given parts p is e needs =
    let k : IsLeading limits lead given parts = subst (λ (t : State). IsIn limits t given parts) e is in
    let none : has_primary (packets_in given) ≡ false = ap has_primary (sym k.stands.composes.whole ∙ append-nil lead) ∙ fillers_lack lead k.stands.composes.keyring.lead in
    lacking_fault limits (packets_in given) p (behind_stands p.packet.kind (needs_behind p.packet.kind needs)) needs none

-- a filler that makes the lead too long
pub lead_long : (limits : Limits) (s : State) (lead : List PacketValue) (given : List Item) (parts : List PartValue) (p : Placed) → IsIn limits s given parts → s ≡ Leading lead → IsFiller p.packet
    → cert_limit limits < octets_of lead + length (spelling p.packet) → IsFaultAt limits (packets_in given) (of_packet p) (fault_at CertTooLong p.block p.pos)
lead_long limits s lead given parts p is e filler long =
    let k : IsLeading limits lead given parts = subst (λ (t : State). IsIn limits t given parts) e is in
    long_fault limits (packets_in given) p (behind_stands p.packet.kind (filler_behind p.packet.kind filler)) (ap (λ (b : Bool). b && not (has_primary (packets_in given))) (filler_free p.packet.kind filler))
    (leads_too_long limits lead given parts p k filler long)

pub and_false : (a : Bool) → (a && false) ≡ false
and_false true = refl
and_false false = refl

-- a packet that makes the certificate too long
pub grown_long : (limits : Limits) (s : State) (c : CertificateValue) (given : List Item) (parts : List PartValue) (p : Placed) → IsIn limits s given parts → s ≡ Growing c → (is_head p.packet.kind || is_hung p.packet.kind) ≡ true
    → cert_limit limits < octets_of (certificate_packets c) + length (spelling p.packet) → IsFaultAt limits (packets_in given) (of_packet p) (fault_at CertTooLong p.block p.pos)
grown_long limits s c given parts p is e behind long =
    let k : IsGrowing limits c given parts = subst (λ (t : State). IsIn limits t given parts) e is in
    let certificate : IsCertificate c = (certificates_front IsCertificate k.done c k.stands.composes.keyring.certificates).1 in
    let m = more_behind c p.packet certificate behind in
    let some : has_primary (packets_in given) ≡ true = ap has_primary (sym k.stands.composes.whole) ∙ certificate_last k.lead k.done c certificate in
    long_fault limits (packets_in given) p (behind_stands p.packet.kind behind) (ap (λ (b : Bool). needs_primary p.packet.kind && not b) some ∙ and_false (needs_primary p.packet.kind))
    (grows_too_long limits c m.more given parts p k m.packets m.is long)

-- a primary key that is too long
pub primary_long : (limits : Limits) (s : State) (given : List Item) (parts : List PartValue) (p : Placed) → IsIn limits s given parts → is_open s ≡ true → IsPrimary p.packet → cert_limit limits < length (spelling p.packet)
    → IsFaultAt limits (packets_in given) (of_packet p) (fault_at CertTooLong p.block p.pos)
primary_long limits s given parts p is e primary long =
    long_fault limits (packets_in given) p (or_left (is_primary p.packet.kind) (is_head p.packet.kind || is_hung p.packet.kind) primary) (ap (λ (b : Bool). b && not (has_primary (packets_in given))) (primary_needs_none p.packet.kind primary))
    (begins_long limits s given parts p is e primary long)

-- ---- what is kept

pub lead_more : (limits : Limits) (s : State) (lead more : List PacketValue) (given : List Item) (parts : List PartValue) (p : Placed) → IsIn limits s given parts → s ≡ Leading lead → HasNoFault (malformed_of limits) p.packet → IsFiller p.packet
    → octets_of lead + length (spelling p.packet) ≤ cert_limit limits → more ≡ lead ++ p.packet ∷ [] → IsLeading limits more (given ++ of_packet p ∷ []) parts
lead_more limits s lead more given parts p is e sound filler short items =
    let k : IsLeading limits lead given parts = subst (λ (t : State). IsIn limits t given parts) e is in
    subst (λ (l : List PacketValue). IsLeading limits l (given ++ of_packet p ∷ []) parts) (sym items) (leads limits lead given parts p k sound filler short)

pub certificate_more : (limits : Limits) (s : State) (c d : CertificateValue) (given : List Item) (parts : List PartValue) (p : Placed) → IsIn limits s given parts → s ≡ Growing c → HasNoFault (malformed_of limits) p.packet
    → certificate_packets d ≡ certificate_packets c ++ p.packet ∷ [] → IsCertificate d → octets_of (certificate_packets c) + length (spelling p.packet) ≤ cert_limit limits
    → IsGrowing limits d (given ++ of_packet p ∷ []) parts
certificate_more limits s c d given parts p is e sound packets certificate short =
    grows limits c d given parts p (subst (λ (t : State). IsIn limits t given parts) e is) sound packets certificate short

pub first_more : (limits : Limits) (s : State) (lead : List PacketValue) (given : List Item) (parts : List PartValue) (p : Placed) → IsIn limits s given parts → s ≡ Leading lead → HasNoFault (malformed_of limits) p.packet → IsPrimary p.packet
    → length (spelling p.packet) ≤ cert_limit limits → IsGrowing limits (begun p.packet) (given ++ of_packet p ∷ []) (parts ++ lead_parts lead)
first_more limits s lead given parts p is e sound primary short =
    begins_first limits lead given parts p (subst (λ (t : State). IsIn limits t given parts) e is) sound primary short

pub next_more : (limits : Limits) (s : State) (b : CertificateValue) (given : List Item) (parts : List PartValue) (p : Placed) → IsIn limits s given parts → s ≡ Growing b → HasNoFault (malformed_of limits) p.packet → IsPrimary p.packet
    → length (spelling p.packet) ≤ cert_limit limits → IsGrowing limits (begun p.packet) (given ++ of_packet p ∷ []) (parts ++ of_certificate b ∷ [])
next_more limits s b given parts p is e sound primary short =
    begins_next limits b given parts p (subst (λ (t : State). IsIn limits t given parts) e is) sound primary short

pub grown_octets : (c d : CertificateValue) (p : PacketValue) (size octets : ℕ) → certificate_packets d ≡ certificate_packets c ++ p ∷ [] → octets_of (certificate_packets c) ≡ size → octets ≡ length (spelling p)
    → octets_of (certificate_packets d) ≡ size + octets
grown_octets c d p size octets packets before own = omega (arith, ap octets_of packets, octets_of-push (certificate_packets c) p, before, own)

-- a type that stands nowhere in a keyring
pub strayed : (s : Sorted) (kind : ℕ) → s ≡ Stray → IsSorted s kind → stands_in_keyring kind ≡ false
strayed Stray kind e h = h
strayed Primary kind e h = absurd cc
strayed Behind kind e h = absurd cc
strayed Filler kind e h = absurd cc

pub spent_is : (s : State) → is_spent_state s ≡ true → s ≡ Spent
spent_is Spent e = refl
spent_is (Leading lead) e = absurd cc
spent_is (Growing c) e = absurd cc
spent_is (Disordered f) e = absurd cc
spent_is (Broken f) e = absurd cc

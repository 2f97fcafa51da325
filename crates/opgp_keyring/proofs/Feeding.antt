-- What one more item does to the lists in which a composer stands.
use Rattle.std.proofs.Common.{◌≡◌, ℕ, ◌+◌, ◌≤◌, ◌<◌, Bool, true, false, not, ◌&&◌, List, [], ◌∷◌, ◌++◌, length, All, if◌then◌else◌, map, refl, sym, ap, subst, ◌∙◌, append_assoc, append-nil, arith}
use Rattle.std.proofs.lemmas.List.Elements.{All-push, All-nil}
use Rattle.std.proofs.lemmas.List.{map-append}
use Rattle.opgp_octets.specs.declared.malformed.Malformed.{Malformed}
use Rattle.opgp_octets.specs.declared.limits.Limits.{Limits}
use Rattle.opgp_octets.specs.Limits.{cert_limit, malformed_of}
use Rattle.opgp_octets.specs.declared.fault.Fault.{Fault}
use Rattle.opgp_octets.specs.declared.fault.BodyFault.{BodyFault}
use Rattle.opgp_octets.specs.declared.fault.Reason.TheVariants.{NoPrimary, NotInKeyring, CertTooLong}
use Rattle.opgp_frame.specs.declared.packet.Placed.{Placed}
use Rattle.opgp_frame.specs.Packet.{PacketValue, spelling}
use Rattle.opgp_octets.specs.Octets.{IsOctets}
use Rattle.opgp_keyring.specs.Bodies.{IsSound, IsFirstBodyFault, HasFault, HasNoFault, placed_fault}
use Rattle.opgp_keyring.specs.Composed.{IsKeyringOf, PartValue, of_certificate, lead_parts}
use Rattle.opgp_keyring.specs.Composition.{Item, of_label, of_packet, placed_in, packets_in, labels_fit, FitsLimits, AreKeyring, IsOrderFault, IsFaultAt, fault_at, stands_in_keyring, needs_primary, has_primary}
use Rattle.opgp_keyring.specs.Keyring.{KeyringValue, CertificateValue, IsKeyring, IsCertificate, certificate_packets, flat, octets_of, IsComponent, IsHung, IsFiller, IsPrimary}
use Rattle.opgp_keyring.proofs.Standing.{IsLeading, IsGrowing}
use Rattle.opgp_keyring.proofs.Adding.{keyring, IsShort, octets_of-push, lead_whole, lead_is, grown_whole, begun_whole, certificates_push, certificates_front, passes_limit, strays, lacks_primary}

-- ---- items, one after the other

pub placed_in-append : (xs ys : List Item) → placed_in (xs ++ ys) ≡ placed_in xs ++ placed_in ys
placed_in-append [] ys = refl
placed_in-append (of_label block fits ∷ xs) ys = placed_in-append xs ys
placed_in-append (of_packet p ∷ xs) ys = ap (λ (l : List Placed). p ∷ l) (placed_in-append xs ys)

pub packets_in-append : (xs ys : List Item) → packets_in (xs ++ ys) ≡ packets_in xs ++ packets_in ys
packets_in-append [] ys = refl
packets_in-append (of_label block fits ∷ xs) ys = packets_in-append xs ys
packets_in-append (of_packet p ∷ xs) ys = ap (λ (l : List PacketValue). p.packet ∷ l) (packets_in-append xs ys)

and_assoc : (a b c : Bool) → (a && (b && c)) ≡ ((a && b) && c)
and_assoc true b c = refl
and_assoc false b c = refl

pub and_true : (a : Bool) → (a && true) ≡ a
and_true true = refl
and_true false = refl

pub labels_fit-append : (xs ys : List Item) → labels_fit (xs ++ ys) ≡ (labels_fit xs && labels_fit ys)
labels_fit-append [] ys = refl
labels_fit-append (of_label block fits ∷ xs) ys = ap (λ (b : Bool). fits && b) (labels_fit-append xs ys) ∙ and_assoc fits (labels_fit xs) (labels_fit ys)
labels_fit-append (of_packet p ∷ xs) ys = labels_fit-append xs ys

-- ---- faults

pub order_fault_stays : (limits : Limits) (given more : List Item) (f : Fault) → IsOrderFault limits given f → IsOrderFault limits (given ++ more) f
order_fault_stays limits given more f o = record {
  before = o.before;
  at = o.at;
  after = o.after ++ more;
  whole = ap (λ (l : List Item). l ++ more) o.whole ∙ append_assoc o.before (o.at ∷ o.after) more;
  keyring = o.keyring;
  labels = o.labels;
  here = o.here;
}

pub body_fault_stays : (policy : Malformed) (given more : List Placed) (f : Fault) → IsFirstBodyFault policy given f → IsFirstBodyFault policy (given ++ more) f
body_fault_stays policy given more f b = record {
  before = b.before;
  at = b.at;
  after = b.after ++ more;
  why = b.why;
  whole = ap (λ (l : List Placed). l ++ more) b.whole ∙ append_assoc b.before (b.at ∷ b.after) more;
  sound = b.sound;
  octets = b.octets;
  here = b.here;
  is = b.is;
}

pub placed_push : (given : List Item) (p : Placed) → placed_in (given ++ of_packet p ∷ []) ≡ placed_in given ++ p ∷ []
placed_push given p = placed_in-append given (of_packet p ∷ [])

pub packets_push : (given : List Item) (p : Placed) → packets_in (given ++ of_packet p ∷ []) ≡ packets_in given ++ p.packet ∷ []
packets_push given p = packets_in-append given (of_packet p ∷ [])

pub body_fault_comes : (policy : Malformed) (given : List Item) (p : Placed) (why : BodyFault) → All (IsSound policy) (placed_in given) → IsOctets p.packet.body → HasFault policy p.packet why
    → IsFirstBodyFault policy (placed_in (given ++ of_packet p ∷ [])) (placed_fault p why)
body_fault_comes policy given p why sound octets here = record { before = placed_in given; at = p; after = []; why = why; whole = placed_push given p; sound = sound; octets = octets; here = here; is = refl }

pub body_fault_behind : (policy : Malformed) (given : List Item) (p : Placed) (f : Fault) → IsFirstBodyFault policy (placed_in given) f → IsFirstBodyFault policy (placed_in (given ++ of_packet p ∷ [])) f
body_fault_behind policy given p f b = subst (λ (l : List Placed). IsFirstBodyFault policy l f) (sym (placed_push given p)) (body_fault_stays policy (placed_in given) (p ∷ []) f b)

pub sound_push : (policy : Malformed) (given : List Item) (p : Placed) → All (IsSound policy) (placed_in given) → HasNoFault policy p.packet → All (IsSound policy) (placed_in (given ++ of_packet p ∷ []))
sound_push policy given p sound e = subst (All (IsSound policy)) (sym (placed_push given p)) (All-push (IsSound policy) (placed_in given) p sound e)

pub order_fault_comes : (limits : Limits) (given : List Item) (i : Item) (r : KeyringValue) (f : Fault) → IsKeyringOf limits given r → IsFaultAt limits (packets_in given) i f → IsOrderFault limits (given ++ i ∷ []) f
order_fault_comes limits given i r f k here = record { before = given; at = i; after = []; whole = refl; keyring = (r, k.composes); labels = k.labels; here = here }

-- a packet of a type that stands in no keyring
pub stray_fault : (limits : Limits) (ps : List PacketValue) (p : Placed) → stands_in_keyring p.packet.kind ≡ false → IsFaultAt limits ps (of_packet p) (fault_at NotInKeyring p.block p.pos)
stray_fault limits ps p e = (
  strays limits ps p.packet e,
  ap (λ (b : Bool). fault_at (if not b then NotInKeyring else (if needs_primary p.packet.kind && not (has_primary ps) then NoPrimary else CertTooLong)) p.block p.pos) (sym e),
)

-- a signature or a component before the first primary key
pub lacking_fault : (limits : Limits) (ps : List PacketValue) (p : Placed) → stands_in_keyring p.packet.kind ≡ true → needs_primary p.packet.kind ≡ true → has_primary ps ≡ false
    → IsFaultAt limits ps (of_packet p) (fault_at NoPrimary p.block p.pos)
lacking_fault limits ps p stands needs none = (
  lacks_primary limits ps p.packet needs none,
  ap (λ (b : Bool). fault_at (if not b then NotInKeyring else (if true && not false then NoPrimary else CertTooLong)) p.block p.pos) (sym stands)
      ∙ ap (λ (b : Bool). fault_at (if not (stands_in_keyring p.packet.kind) then NotInKeyring else (if b && not false then NoPrimary else CertTooLong)) p.block p.pos) (sym needs)
      ∙ ap (λ (b : Bool). fault_at (if not (stands_in_keyring p.packet.kind) then NotInKeyring else (if needs_primary p.packet.kind && not b then NoPrimary else CertTooLong)) p.block p.pos) (sym none),
)

-- a packet that could stand here, but for the limit
pub long_fault : (limits : Limits) (ps : List PacketValue) (p : Placed) → stands_in_keyring p.packet.kind ≡ true → (needs_primary p.packet.kind && not (has_primary ps)) ≡ false
    → (AreKeyring limits (ps ++ p.packet ∷ []) → ⊥) → IsFaultAt limits ps (of_packet p) (fault_at CertTooLong p.block p.pos)
long_fault limits ps p stands free long = (
  long,
  ap (λ (b : Bool). fault_at (if not b then NotInKeyring else (if false then NoPrimary else CertTooLong)) p.block p.pos) (sym stands)
      ∙ ap (λ (b : Bool). fault_at (if not (stands_in_keyring p.packet.kind) then NotInKeyring else (if b then NoPrimary else CertTooLong)) p.block p.pos) (sym free),
)

-- ---- one more packet of the keyring

-- the items with one more packet are those of this keyring
pub kept : (limits : Limits) (given : List Item) (p : Placed) (r s : KeyringValue) → IsKeyringOf limits given r → HasNoFault (malformed_of limits) p.packet → IsKeyring s → flat s ≡ flat r ++ p.packet ∷ [] → FitsLimits limits s
    → IsKeyringOf limits (given ++ of_packet p ∷ []) s
kept limits given p r s k sound is whole fits = record {
  labels = labels_fit-append given (of_packet p ∷ []) ∙ and_true (labels_fit given) ∙ k.labels;
  sound = sound_push (malformed_of limits) given p k.sound sound;
  composes = record { keyring = is; whole = whole ∙ ap (λ (l : List PacketValue). l ++ p.packet ∷ []) k.composes.whole ∙ sym (packets_push given p); fits = fits };
}

-- no keyring is that of the items with one more packet, since it would pass the limit
pub too_long : (limits : Limits) (given : List Item) (p : Placed) (r s : KeyringValue) → IsKeyringOf limits given r → IsKeyring s → flat s ≡ flat r ++ p.packet ∷ [] → (FitsLimits limits s → ⊥)
    → AreKeyring limits (packets_in given ++ p.packet ∷ []) → ⊥
too_long limits given p r s k is whole long = passes_limit limits (packets_in given ++ p.packet ∷ []) s is (whole ∙ ap (λ (l : List PacketValue). l ++ p.packet ∷ []) k.composes.whole) long

-- ---- the steps

-- a filler before the first primary key
pub leads : (limits : Limits) (lead : List PacketValue) (given : List Item) (parts : List PartValue) (p : Placed) → IsLeading limits lead given parts → HasNoFault (malformed_of limits) p.packet → IsFiller p.packet
    → octets_of lead + length (spelling p.packet) ≤ cert_limit limits → IsLeading limits (lead ++ p.packet ∷ []) (given ++ of_packet p ∷ []) parts
leads limits lead given parts p s sound filler short =
    let is : IsKeyring (keyring (lead ++ p.packet ∷ []) []) = lead_is lead p.packet s.stands.composes.keyring filler in
    let fits : FitsLimits limits (keyring (lead ++ p.packet ∷ []) []) = record { lead = omega (arith, octets_of-push lead p.packet, short); certificates = s.stands.composes.fits.certificates } in
    record { stands = kept limits given p (keyring lead []) (keyring (lead ++ p.packet ∷ []) []) s.stands sound is (lead_whole lead p.packet) fits; none = s.none }

pub leads_too_long : (limits : Limits) (lead : List PacketValue) (given : List Item) (parts : List PartValue) (p : Placed) → IsLeading limits lead given parts → IsFiller p.packet
    → cert_limit limits < octets_of lead + length (spelling p.packet) → AreKeyring limits (packets_in given ++ p.packet ∷ []) → ⊥
leads_too_long limits lead given parts p s filler long =
    too_long limits given p (keyring lead []) (keyring (lead ++ p.packet ∷ []) []) s.stands (lead_is lead p.packet s.stands.composes.keyring filler) (lead_whole lead p.packet)
    (λ (f : FitsLimits limits (keyring (lead ++ p.packet ∷ []) [])). absurd (omega (arith, octets_of-push lead p.packet, long, f.lead)))

-- a certificate with one more packet
pub grows : (limits : Limits) (c d : CertificateValue) (given : List Item) (parts : List PartValue) (p : Placed) → IsGrowing limits c given parts → HasNoFault (malformed_of limits) p.packet
    → certificate_packets d ≡ certificate_packets c ++ p.packet ∷ [] → IsCertificate d → octets_of (certificate_packets c) + length (spelling p.packet) ≤ cert_limit limits
    → IsGrowing limits d (given ++ of_packet p ∷ []) parts
grows limits c d given parts p s sound whole is short =
    let k = s.stands.composes in
    let before = certificates_front IsCertificate s.done c k.keyring.certificates in
    let shorts = certificates_front (IsShort limits) s.done c k.fits.certificates in
    let size : octets_of (certificate_packets d) ≡ octets_of (certificate_packets c) + length (spelling p.packet) = ap octets_of whole ∙ octets_of-push (certificate_packets c) p.packet in
    let new : KeyringValue = keyring s.lead (s.done ++ d ∷ []) in
    let ring : IsKeyring new = record { lead = k.keyring.lead; certificates = All-push IsCertificate s.done d before.0 is } in
    let fits : FitsLimits limits new = record { lead = k.fits.lead; certificates = All-push (IsShort limits) s.done d shorts.0 (omega (arith, size, short)) } in
    record { lead = s.lead; done = s.done; stands = kept limits given p (keyring s.lead (s.done ++ c ∷ [])) new s.stands sound ring (grown_whole s.lead s.done c d p.packet whole) fits; so_far = s.so_far }

pub grows_too_long : (limits : Limits) (c d : CertificateValue) (given : List Item) (parts : List PartValue) (p : Placed) → IsGrowing limits c given parts
    → certificate_packets d ≡ certificate_packets c ++ p.packet ∷ [] → IsCertificate d → cert_limit limits < octets_of (certificate_packets c) + length (spelling p.packet)
    → AreKeyring limits (packets_in given ++ p.packet ∷ []) → ⊥
grows_too_long limits c d given parts p s whole is long =
    let k = s.stands.composes in
    let before = certificates_front IsCertificate s.done c k.keyring.certificates in
    let size : octets_of (certificate_packets d) ≡ octets_of (certificate_packets c) + length (spelling p.packet) = ap octets_of whole ∙ octets_of-push (certificate_packets c) p.packet in
    let new : KeyringValue = keyring s.lead (s.done ++ d ∷ []) in
    too_long limits given p (keyring s.lead (s.done ++ c ∷ [])) new s.stands (record { lead = k.keyring.lead; certificates = All-push IsCertificate s.done d before.0 is }) (grown_whole s.lead s.done c d p.packet whole)
    (λ (f : FitsLimits limits new). absurd (let last : octets_of (certificate_packets d) ≤ cert_limit limits = (certificates_front (IsShort limits) s.done d f.certificates).1 in omega (arith, size, long, last)))

-- a certificate of its primary key alone
abbrev pub begun : PacketValue → CertificateValue
begun p = record { primary = p; hangs = []; components = [] }

pub begun_is : (p : PacketValue) → IsPrimary p → IsCertificate (begun p)
begun_is p e = record { primary = e; hangs = All-nil IsHung; components = All-nil IsComponent }

pub begun_octets : (p : PacketValue) → octets_of (certificate_packets (begun p)) ≡ length (spelling p)
unfolding octets_of
begun_octets p = ap (length {A = ℕ}) (append-nil (spelling p))

-- the first certificate, behind the lead
pub begins_first : (limits : Limits) (lead : List PacketValue) (given : List Item) (parts : List PartValue) (p : Placed) → IsLeading limits lead given parts → HasNoFault (malformed_of limits) p.packet → IsPrimary p.packet
    → length (spelling p.packet) ≤ cert_limit limits → IsGrowing limits (begun p.packet) (given ++ of_packet p ∷ []) (parts ++ lead_parts lead)
begins_first limits lead given parts p s sound primary short =
    let k = s.stands.composes in
    let c : CertificateValue = begun p.packet in
    let new : KeyringValue = keyring lead ([] ++ c ∷ []) in
    let ring : IsKeyring new = certificates_push lead [] c k.keyring (begun_is p.packet primary) in
    let fits : FitsLimits limits new = record { lead = k.fits.lead; certificates = All-push (IsShort limits) [] c k.fits.certificates (omega (arith, begun_octets p.packet, short)) } in
    record {
      lead = lead;
      done = [];
      stands = kept limits given p (keyring lead []) new s.stands sound ring (begun_whole lead [] p.packet) fits;
      so_far = ap (λ (l : List PartValue). l ++ lead_parts lead) s.none ∙ sym (append-nil (lead_parts lead));
    }

-- a further certificate
pub begins_next : (limits : Limits) (b : CertificateValue) (given : List Item) (parts : List PartValue) (p : Placed) → IsGrowing limits b given parts → HasNoFault (malformed_of limits) p.packet → IsPrimary p.packet
    → length (spelling p.packet) ≤ cert_limit limits → IsGrowing limits (begun p.packet) (given ++ of_packet p ∷ []) (parts ++ of_certificate b ∷ [])
begins_next limits b given parts p s sound primary short =
    let k = s.stands.composes in
    let c : CertificateValue = begun p.packet in
    let old : List CertificateValue = s.done ++ b ∷ [] in
    let new : KeyringValue = keyring s.lead (old ++ c ∷ []) in
    let ring : IsKeyring new = certificates_push s.lead old c k.keyring (begun_is p.packet primary) in
    let fits : FitsLimits limits new = record { lead = k.fits.lead; certificates = All-push (IsShort limits) old c k.fits.certificates (omega (arith, begun_octets p.packet, short)) } in
    record {
      lead = s.lead;
      done = old;
      stands = kept limits given p (keyring s.lead old) new s.stands sound ring (begun_whole s.lead old p.packet) fits;
      so_far = ap (λ (l : List PartValue). l ++ of_certificate b ∷ []) s.so_far ∙ append_assoc (lead_parts s.lead) (map of_certificate s.done) (of_certificate b ∷ [])
          ∙ ap (λ (l : List PartValue). lead_parts s.lead ++ l) (sym (map-append of_certificate s.done (b ∷ [])));
    }

-- where a primary key is too long, whatever came before
pub begins_too_long : (limits : Limits) (r : KeyringValue) (given : List Item) (p : Placed) → IsKeyringOf limits given r → IsPrimary p.packet → cert_limit limits < length (spelling p.packet)
    → AreKeyring limits (packets_in given ++ p.packet ∷ []) → ⊥
begins_too_long limits r given p s primary long =
    let c : CertificateValue = begun p.packet in
    let new : KeyringValue = keyring r.lead (r.certificates ++ c ∷ []) in
    too_long limits given p r new s (certificates_push r.lead r.certificates c s.composes.keyring (begun_is p.packet primary)) (begun_whole r.lead r.certificates p.packet)
    (λ (f : FitsLimits limits new). absurd (let last : octets_of (certificate_packets c) ≤ cert_limit limits = (certificates_front (IsShort limits) r.certificates c f.certificates).1 in omega (arith, begun_octets p.packet, long, last)))

-- Items whose bodies are octets are those of a keyring, or have a fault.
use Rattle.std.proofs.Common.{◌≡◌, ℕ, ◌≤◌, Bool, true, false, not, ◌&&◌, ◌⊎◌, inl, inr, List, [], ◌∷◌, ◌++◌, length, All, refl, sym, subst, append_assoc, append-nil, arith}
use Rattle.std.specs.List.{AllByRecursion}
use Rattle.std.proofs.lemmas.Bool.{cases_lt}
use Rattle.std.proofs.lemmas.List.Elements.{All-nil, All-cons, All-head, All-tail, recursion_from_All}
use Rattle.opgp_octets.specs.declared.malformed.Malformed.{Malformed}
use Rattle.opgp_octets.specs.declared.malformed.Malformed.TheVariants.{Refuse, Keep}
use Rattle.opgp_octets.specs.declared.limits.Limits.{Limits}
use Rattle.opgp_octets.specs.Limits.{cert_limit, malformed_of}
use Rattle.opgp_octets.specs.Octets.{IsOctets}
use Rattle.opgp_octets.specs.PacketType.{packet_type_of}
use Rattle.opgp_octets.specs.declared.fault.Fault.{Fault}
use Rattle.opgp_octets.specs.declared.fault.BodyFault.{BodyFault}
use Rattle.opgp_octets.specs.declared.fault.Reason.TheVariants.{NoPrimary, NotInKeyring, CertTooLong, BlockLabel}
use Rattle.opgp_octets.specs.declared.packet_type.PacketType.{PacketType}
use Rattle.opgp_octets.specs.declared.packet_type.PacketType.TheVariants.{Signature, PublicKey, PublicSubkey, LiteralData, UserAttribute}
use Rattle.opgp_packet.specs.Fields.{Grammar, Field, Body, FirstFault}
use Rattle.opgp_frame.specs.declared.packet.Placed.{Placed}
use Rattle.opgp_frame.specs.Packet.{PacketValue}
use Rattle.opgp_packet.specs.AttributeBody.{attribute}
use Rattle.opgp_packet.specs.KeyBody.{key}
use Rattle.opgp_packet.specs.LiteralBody.{literal}
use Rattle.opgp_packet.specs.SignatureBody.{SignatureValue, Spells, SignatureFault}
use Rattle.opgp_keyring.specs.PacketBody.{HasBodyFault}
use Rattle.opgp_keyring.specs.Bodies.{HasNoFault, placed_fault}
use Rattle.opgp_keyring.specs.Composed.{HasOctets, IsFault, IsKeyringOf}
use Rattle.opgp_keyring.specs.Composition.{FitsLimits, Item, IsFaultAt, fault_at, has_primary, needs_primary, of_label, of_packet, packets_in, stands_in_keyring}
use Rattle.opgp_keyring.specs.Keyring.{CertificateValue, KeyringValue, certificate_packets, octets_of}
use Rattle.opgp_keyring.proofs.Adding.{IsShort, keyring}
use Rattle.opgp_keyring.proofs.Feeding.{body_fault_behind, body_fault_comes, kept, lacking_fault, long_fault, order_fault_comes, order_fault_stays, sound_push, stray_fault, too_long}
use Rattle.opgp_keyring.proofs.Longer.{Longer, longer}
use Rattle.opgp_keyring.proofs.Starting.{starts}
use Rattle.opgp_keyring.proofs.States.{body_fault_after, label_push, sound_items}

-- ---- bodies

-- octets are fields or have a fault of them, and so are signatures
pub record Laws : Type 0 where
  pub fields : (grammar : Grammar) (o : List ℕ) → IsOctets o → ((fields : List Field) × Body grammar fields o) ⊎ ((f : BodyFault) × FirstFault (length o) grammar o f)
  pub no_field : (grammar : Grammar) (fields : List Field) (o : List ℕ) (f : BodyFault) → IsOctets o → Body grammar fields o → FirstFault (length o) grammar o f → ⊥
  pub signature : (o : List ℕ) → IsOctets o → ((value : SignatureValue) × Spells value o) ⊎ ((f : BodyFault) × SignatureFault o f)
  pub no_signature : (value : SignatureValue) (o : List ℕ) (f : BodyFault) → IsOctets o → Spells value o → SignatureFault o f → ⊥

by_fields : (laws : Laws) (grammar : Grammar) (o : List ℕ) → IsOctets o → ((f : BodyFault) × FirstFault (length o) grammar o f) ⊎ ((f : BodyFault) → FirstFault (length o) grammar o f → ⊥)
by_fields laws grammar o octets = elim (laws.fields grammar o octets) [ inl b ↦ inr (λ f h. laws.no_field grammar b.0 o f octets b.1 h) | inr w ↦ inl w ]

of_signature : (policy : Malformed) (laws : Laws) (o : List ℕ) → IsOctets o → ((f : BodyFault) × HasBodyFault policy Signature o f) ⊎ ((f : BodyFault) → HasBodyFault policy Signature o f → ⊥)
of_signature Refuse laws o octets = elim (laws.signature o octets) [ inl b ↦ inr (λ f h. laws.no_signature b.0 o f octets b.1 h.1) | inr w ↦ inl (w.0, (refl, w.1)) ]
of_signature Keep laws o octets = inr (λ f h. let never = h.0 in cc)

-- a body has a fault or none
pub decided : (policy : Malformed) (laws : Laws) (kind : PacketType) (o : List ℕ) → IsOctets o → ((f : BodyFault) × HasBodyFault policy kind o f) ⊎ ((f : BodyFault) → HasBodyFault policy kind o f → ⊥)
decided policy laws Signature o octets = of_signature policy laws o octets
decided policy laws PublicKey o octets = by_fields laws key o octets
decided policy laws PublicSubkey o octets = by_fields laws key o octets
decided policy laws LiteralData o octets = by_fields laws literal o octets
decided policy laws UserAttribute o octets = by_fields laws attribute o octets
decided policy laws other o octets = inr (λ f h. h)

-- ---- a keyring with one more packet, if there is one

fits_all : (limits : Limits) (cs : List CertificateValue) → All (IsShort limits) cs ⊎ (All (IsShort limits) cs → ⊥)
fits_all limits [] = inl (All-nil (IsShort limits))
fits_all limits (c ∷ cs) =
    elim (cases_lt (cert_limit limits) (octets_of (certificate_packets c))) [
      | inl long ↦ inr (λ a. let h : octets_of (certificate_packets c) ≤ cert_limit limits = All-head (IsShort limits) c cs a in absurd (omega arith))
      | inr short ↦ elim (fits_all limits cs) [ inl a ↦ inl (All-cons (IsShort limits) c cs short a) | inr n ↦ inr (λ a. n (All-tail (IsShort limits) c cs a)) ]
    ]

fits : (limits : Limits) (s : KeyringValue) → FitsLimits limits s ⊎ (FitsLimits limits s → ⊥)
fits limits s =
    elim (cases_lt (cert_limit limits) (octets_of s.lead)) [
      | inl long ↦ inr (λ f. let h : octets_of s.lead ≤ cert_limit limits = f.lead in absurd (omega arith))
      | inr short ↦ elim (fits_all limits s.certificates) [ inl a ↦ inl (record { lead = short; certificates = a }) | inr n ↦ inr (λ f. n f.certificates) ]
    ]

-- ---- one more item

abbrev pub Answer : Limits → List Item → Type 0
Answer limits items = ((r : KeyringValue) × IsKeyringOf limits items r) ⊎ ((f : Fault) × IsFault limits items f)

refused_at : (limits : Limits) (given : List Item) (p : Placed) (r : KeyringValue) (f : Fault) → IsKeyringOf limits given r → HasNoFault (malformed_of limits) p.packet → IsFaultAt limits (packets_in given) (of_packet p) f → Answer limits (given ++ of_packet p ∷ [])
refused_at limits given p r f k sound here = inr (f, inr (sound_push (malformed_of limits) given p k.sound sound, order_fault_comes limits given (of_packet p) r f k here))

from_longer : (limits : Limits) (given : List Item) (p : Placed) (r : KeyringValue) → IsKeyringOf limits given r → HasNoFault (malformed_of limits) p.packet → stands_in_keyring p.packet.kind ≡ true → (needs_primary p.packet.kind && not (has_primary (packets_in given))) ≡ false
    → Longer r p.packet → Answer limits (given ++ of_packet p ∷ [])
from_longer limits given p r k sound stands free l =
    elim (fits limits l.more) [
      | inl f ↦ inl (l.more, kept limits given p r l.more k sound l.is l.whole f)
      | inr n ↦ refused_at limits given p r (fault_at CertTooLong p.block p.pos) k sound (long_fault limits (packets_in given) p stands free (too_long limits given p r l.more k l.is l.whole n))
    ]

bool_cases : (b : Bool) → (b ≡ true) ⊎ (b ≡ false)
bool_cases true = inl refl
bool_cases false = inr refl

both : (a b : Bool) → (a && not b) ≡ true → (a ≡ true) × (b ≡ false)
both true false e = (refl, refl)
both true true e = absurd cc
both false b e = absurd cc

stands_step : (limits : Limits) (given : List Item) (p : Placed) (r : KeyringValue) → IsKeyringOf limits given r → HasNoFault (malformed_of limits) p.packet → stands_in_keyring p.packet.kind ≡ true → Answer limits (given ++ of_packet p ∷ [])
stands_step limits given p r k sound stands =
    let ps : List PacketValue = packets_in given in
    elim (bool_cases (needs_primary p.packet.kind && not (has_primary ps))) [
      | inl lacks ↦ let needs = both (needs_primary p.packet.kind) (has_primary ps) lacks in refused_at limits given p r (fault_at NoPrimary p.block p.pos) k sound (lacking_fault limits ps p stands needs.0 needs.1)
      | inr free ↦ from_longer limits given p r k sound stands free (longer r ps p.packet k.composes.keyring k.composes.whole stands free)
    ]

packet_step : (limits : Limits) (given : List Item) (p : Placed) (r : KeyringValue) → IsKeyringOf limits given r → HasNoFault (malformed_of limits) p.packet → Answer limits (given ++ of_packet p ∷ [])
packet_step limits given p r k sound =
    elim (bool_cases (stands_in_keyring p.packet.kind)) [
      | inl stands ↦ stands_step limits given p r k sound stands
      | inr strays ↦ refused_at limits given p r (fault_at NotInKeyring p.block p.pos) k sound (stray_fault limits (packets_in given) p strays)
    ]

step : (laws : Laws) (limits : Limits) (given : List Item) (i : Item) → HasOctets i → Answer limits given → Answer limits (given ++ i ∷ [])
step laws limits given (of_label block true) o (inl (r, k)) = inl (r, label_push limits given block r k)
step laws limits given (of_label block false) o (inl (r, k)) =
    inr (fault_at BlockLabel block 0, inr (sound_items (malformed_of limits) given (of_label block false) k.sound tt, order_fault_comes limits given (of_label block false) r (fault_at BlockLabel block 0) k (refl, refl)))
step laws limits given (of_label block fits) o (inr (f, inl b)) = inr (f, inl (body_fault_after (malformed_of limits) given (of_label block fits) f b))
step laws limits given (of_label block fits) o (inr (f, inr (s, q))) = inr (f, inr (sound_items (malformed_of limits) given (of_label block fits) s tt, order_fault_stays limits given (of_label block fits ∷ []) f q))
step laws limits given (of_packet p) o (inl (r, k)) =
    elim (decided (malformed_of limits) laws (packet_type_of p.packet.kind) p.packet.body o) [
      | inl w ↦ inr (placed_fault p w.0, inl (body_fault_comes (malformed_of limits) given p w.0 k.sound o w.1))
      | inr n ↦ packet_step limits given p r k n
    ]
step laws limits given (of_packet p) o (inr (f, inl b)) = inr (f, inl (body_fault_behind (malformed_of limits) given p f b))
step laws limits given (of_packet p) o (inr (f, inr (s, q))) =
    elim (decided (malformed_of limits) laws (packet_type_of p.packet.kind) p.packet.body o) [
      | inl w ↦ inr (placed_fault p w.0, inl (body_fault_comes (malformed_of limits) given p w.0 s o w.1))
      | inr n ↦ inr (f, inr (sound_push (malformed_of limits) given p s n, order_fault_stays limits given (of_packet p ∷ []) f q))
    ]

steps : (laws : Laws) (limits : Limits) (given more : List Item) → Answer limits given → AllByRecursion HasOctets more → Answer limits (given ++ more)
steps laws limits given [] a o = subst (Answer limits) (sym (append-nil given)) a
steps laws limits given (i ∷ more) a o = subst (Answer limits) (append_assoc given (i ∷ []) more) (steps laws limits (given ++ i ∷ []) more (step laws limits given i o.0 a) o.1)

pub some_answer : (laws : Laws) (limits : Limits) (items : List Item) → All HasOctets items → Answer limits items
some_answer laws limits items o = steps laws limits [] items (inl (keyring [] [], starts limits)) (recursion_from_All HasOctets items o)

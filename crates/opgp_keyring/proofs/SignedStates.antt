-- What the gathering of a signed literal says, with one more item.
use Rattle.std.proofs.Common.{◌≡◌, ℕ, ◌+◌, ◌-◌, ◌^◌, min, Bool, true, false, inr, List, [], ◌∷◌, ◌++◌, All, length, map, refl, sym, ap, subst, ◌∙◌, append_assoc, append-nil}
use Rattle.std.proofs.lemmas.List.{map-append}
use Rattle.std.proofs.lemmas.List.Elements.{All-append, All-cons, All-head, All-nil, All-tail}
use Rattle.opgp_octets.specs.declared.malformed.Malformed.{Malformed}
use Rattle.opgp_octets.specs.declared.fault.Fault.{Fault}
use Rattle.opgp_octets.specs.declared.fault.Reason.TheVariants.{NotASignedLiteral}
use Rattle.opgp_frame.specs.declared.packet.Placed.{Placed}
use Rattle.opgp_frame.specs.Packet.{PacketValue, spelling}
use Rattle.opgp_keyring.specs.declared.shape.Shape.{Shape}
use Rattle.opgp_keyring.specs.declared.signed_gathering.SignedState.{SignedState}
use Rattle.opgp_keyring.specs.declared.signed_gathering.SignedState.TheVariants.{Open, Disordered, Broken}
use Rattle.opgp_keyring.specs.Bodies.{HasNoFault, IsSound, IsFirstBodyFault}
use Rattle.opgp_keyring.specs.Composed.{IsSoundItem}
use Rattle.opgp_keyring.specs.Composition.{Item, of_label, of_packet, placed_in, packets_in, labels_fit, fault_at}
use Rattle.opgp_keyring.specs.Shape.{Stands, is_whole}
use Rattle.opgp_keyring.specs.Signed.{BeginsSigned, IsSigned, IsSignedFaultAt, IsSignedFaultBy, IsSignedOf, StopsAt, last_of, blocks_in, end_of, end_block, end_pos, told_end}
use Rattle.opgp_keyring.specs.SignedState.{IsOpen, IsSignedIn, is_open}
use Rattle.opgp_keyring.proofs.Feeding.{placed_push, packets_push, packets_in-append, labels_fit-append, and_true, sound_push, body_fault_behind}
use Rattle.opgp_keyring.proofs.SignedShapes.{begins, whole, lacks}
use Rattle.opgp_keyring.proofs.States.{sound_items, body_fault_after}

-- ---- the end of the last block

last_of-push : (other : ℕ) (ns : List ℕ) (n : ℕ) → last_of other (ns ++ n ∷ []) ≡ n
last_of-push other [] n = refl
last_of-push other (m ∷ ns) n = last_of-push m ns n

blocks_in-append : (xs ys : List Item) → blocks_in (xs ++ ys) ≡ blocks_in xs ++ blocks_in ys
blocks_in-append [] ys = refl
blocks_in-append (of_label block fits ∷ xs) ys = ap (λ (l : List ℕ). block ∷ l) (blocks_in-append xs ys)
blocks_in-append (of_packet p ∷ xs) ys = blocks_in-append xs ys

pub block_begins : (given : List Item) (block : ℕ) (fits : Bool) → end_block (given ++ of_label block fits ∷ []) ≡ block
block_begins given block fits = ap (last_of 0) (blocks_in-append given (of_label block fits ∷ [])) ∙ last_of-push 0 (blocks_in given) block

pub block_stays : (given : List Item) (p : Placed) → end_block (given ++ of_packet p ∷ []) ≡ end_block given
block_stays given p = ap (last_of 0) (blocks_in-append given (of_packet p ∷ []) ∙ append-nil (blocks_in given))

end_is : (given : List Item) (i : Item) → end_pos (given ++ i ∷ []) ≡ end_of i
end_is given i = ap (last_of 0) (map-append end_of given (i ∷ [])) ∙ last_of-push 0 (map end_of given) (end_of i)

-- ---- the order

open_begins : (policy : Malformed) (shape : Shape) (given : List Item) (kept : List PacketValue) → IsOpen policy shape given kept → BeginsSigned (packets_in given)
open_begins policy shape given kept o = subst BeginsSigned o.flat (begins shape kept o.stands)

pub refused : (policy : Malformed) (shape : Shape) (given : List Item) (kept : List PacketValue) (i : Item) (f : Fault) → IsOpen policy shape given kept → IsSoundItem policy i → IsSignedFaultAt (packets_in given) i f
    → All (IsSound policy) (placed_in (given ++ i ∷ [])) × StopsAt (given ++ i ∷ []) f
refused policy shape given kept i f o sound here = (
  sound_items policy given i o.sound sound,
  record { before = given; at = i; after = []; whole = refl; begins = open_begins policy shape given kept o; labels = o.labels; here = here },
)

pub stop_stays : (given more : List Item) (f : Fault) → StopsAt given f → StopsAt (given ++ more) f
stop_stays given more f o = record {
  before = o.before;
  at = o.at;
  after = o.after ++ more;
  whole = ap (λ (l : List Item). l ++ more) o.whole ∙ append_assoc o.before (o.at ∷ o.after) more;
  begins = o.begins;
  labels = o.labels;
  here = o.here;
}

-- behind a fault nothing changes
pub behind : (policy : Malformed) (s : SignedState) (given : List Item) (kept : List PacketValue) (i : Item) → IsSoundItem policy i → is_open s ≡ false → IsSignedIn policy s given kept → IsSignedIn policy s (given ++ i ∷ []) kept
behind policy (Open shape) given kept i sound e is = absurd cc
behind policy (Disordered f) given kept i sound e is = (sound_items policy given i is.0 sound, stop_stays given (i ∷ []) f is.1)
behind policy (Broken f) given kept i sound e is = body_fault_after policy given i f is

-- a label that is the wanted one
pub labelled : (policy : Malformed) (s : SignedState) (given : List Item) (kept : List PacketValue) (block : ℕ) → IsSignedIn policy s given kept → IsSignedIn policy s (given ++ of_label block true ∷ []) kept
labelled policy (Open shape) given kept block o = record {
  labels = labels_fit-append given (of_label block true ∷ []) ∙ and_true (labels_fit given) ∙ o.labels;
  sound = sound_items policy given (of_label block true) o.sound tt;
  flat = o.flat ∙ sym (packets_in-append given (of_label block true ∷ []) ∙ append-nil (packets_in given));
  stands = o.stands;
}
labelled policy (Disordered f) given kept block is = behind policy (Disordered f) given kept (of_label block true) tt refl is
labelled policy (Broken f) given kept block is = behind policy (Broken f) given kept (of_label block true) tt refl is

-- a packet that fits
pub followed : (policy : Malformed) (shape next : Shape) (given : List Item) (kept more : List PacketValue) (p : Placed) → IsOpen policy shape given kept → IsSound policy p → Stands next (kept ++ p.packet ∷ []) → more ≡ kept ++ p.packet ∷ [] → IsOpen policy next (given ++ of_packet p ∷ []) more
followed policy shape next given kept more p o sound stands items = record {
  labels = labels_fit-append given (of_packet p ∷ []) ∙ and_true (labels_fit given) ∙ o.labels;
  sound = sound_push policy given p o.sound sound;
  flat = items ∙ ap (λ (l : List PacketValue). l ++ p.packet ∷ []) o.flat ∙ sym (packets_push given p);
  stands = subst (Stands next) (sym items) stands;
}

-- and one that doesn't
pub stopped : (policy : Malformed) (shape : Shape) (given : List Item) (kept : List PacketValue) (p : Placed) → IsOpen policy shape given kept → (BeginsSigned (kept ++ p.packet ∷ []) → ⊥)
    → IsSignedFaultAt (packets_in given) (of_packet p) (fault_at NotASignedLiteral p.block p.pos)
stopped policy shape given kept p o none = (subst (λ (l : List PacketValue). BeginsSigned (l ++ p.packet ∷ []) → ⊥) o.flat none, refl)

-- ---- bodies

pub sound_before : (policy : Malformed) (s : SignedState) (given : List Item) (kept : List PacketValue) → ((f : Fault) → s ≡ Broken f → ⊥) → IsSignedIn policy s given kept → All (IsSound policy) (placed_in given)
sound_before policy (Open shape) given kept none o = o.sound
sound_before policy (Disordered f) given kept none is = is.0
sound_before policy (Broken f) given kept none is = absurd (none f refl)

pub breaks : (policy : Malformed) (given : List Item) (p : Placed) (f : Fault) → All (IsSound policy) (placed_in given) → IsFirstBodyFault policy (p ∷ []) f → IsFirstBodyFault policy (placed_in (given ++ of_packet p ∷ [])) f
breaks policy given p f sound b = record {
  before = placed_in given ++ b.before;
  at = b.at;
  after = b.after;
  why = b.why;
  whole = placed_push given p ∙ ap (λ (l : List Placed). placed_in given ++ l) b.whole ∙ sym (append_assoc (placed_in given) b.before (b.at ∷ b.after));
  sound = All-append (IsSound policy) (placed_in given) b.before sound b.sound;
  octets = b.octets;
  here = b.here;
  is = b.is;
}

-- ---- the end

pub sound_packets : (policy : Malformed) (items : List Item) → All (IsSound policy) (placed_in items) → All (HasNoFault policy) (packets_in items)
sound_packets policy [] a = All-nil (HasNoFault policy)
sound_packets policy (of_label block fits ∷ items) a = sound_packets policy items a
sound_packets policy (of_packet p ∷ items) a = All-cons (HasNoFault policy) p.packet (packets_in items) (All-head (IsSound policy) p (placed_in items) a) (sound_packets policy items (All-tail (IsSound policy) p (placed_in items) a))

pub kept_sound : (policy : Malformed) (shape : Shape) (items : List Item) (kept : List PacketValue) → IsOpen policy shape items kept → All (HasNoFault policy) kept
kept_sound policy shape items kept o = subst (All (HasNoFault policy)) (sym o.flat) (sound_packets policy items o.sound)

pub closed : (policy : Malformed) (shape : Shape) (items : List Item) (kept : List PacketValue) → is_whole shape ≡ true → IsOpen policy shape items kept → IsSignedOf policy items kept
closed policy shape items kept e o = record { labels = o.labels; sound = o.sound; flat = o.flat; signed = whole shape kept o.stands e }

pub early : (policy : Malformed) (shape : Shape) (items : List Item) (kept : List PacketValue) (block pos end : ℕ) → is_whole shape ≡ false → IsOpen policy shape items kept → block ≡ end_block items → pos ≡ end → IsSignedFaultBy policy end items (fault_at NotASignedLiteral block pos)
early policy shape items kept block pos end e o number place =
    inr (
      o.sound,
      inr (record {
        begins = open_begins policy shape items kept o;
        labels = o.labels;
        lacks = subst (λ (l : List PacketValue). IsSigned l → ⊥) o.flat (lacks shape kept o.stands e);
        is = ap (λ (n : ℕ). fault_at NotASignedLiteral n pos) number ∙ ap (λ (n : ℕ). fault_at NotASignedLiteral (end_block items) n) place;
      }),
    )

pub not_open : (s : SignedState) → ((shape : Shape) → s ≡ Open shape → ⊥) → is_open s ≡ false
not_open (Open shape) none = absurd (none shape refl)
not_open (Disordered f) none = refl
not_open (Broken f) none = refl

pub broken : (policy : Malformed) (s : SignedState) (given : List Item) (kept : List PacketValue) (p : Placed) (f : Fault) → s ≡ Broken f → IsSignedIn policy s given kept → IsSignedIn policy s (given ++ of_packet p ∷ []) kept
broken policy (Open shape) given kept p f e is = absurd cc
broken policy (Disordered g) given kept p f e is = absurd cc
broken policy (Broken g) given kept p f e is = body_fault_behind policy given p g is

-- a packet behind a fault
pub passed_over : (policy : Malformed) (s : SignedState) (given : List Item) (kept : List PacketValue) (p : Placed) → ((shape : Shape) → s ≡ Open shape → ⊥) → IsSound policy p → IsSignedIn policy s given kept → IsSignedIn policy s (given ++ of_packet p ∷ []) kept
passed_over policy s given kept p none sound is = behind policy s given kept (of_packet p) sound (not_open s none) is

-- the end is counted as 64 bits tell it
pub end_known : (given : List Item) (p : Placed) (octets end : ℕ) → octets ≡ length (spelling p.packet) → end ≡ min (p.pos + octets) (2 ^ 64 - 1) → end ≡ told_end (given ++ of_packet p ∷ [])
end_known given p octets end size e =
    e ∙ ap (λ (n : ℕ). min (p.pos + n) (2 ^ 64 - 1)) size ∙ ap (λ (n : ℕ). min n (2 ^ 64 - 1)) (sym (end_is given (of_packet p)))

pub end_none : (given : List Item) (block : ℕ) (fits : Bool) → 0 ≡ told_end (given ++ of_label block fits ∷ [])
end_none given block fits = ap (λ (n : ℕ). min n (2 ^ 64 - 1)) (sym (end_is given (of_label block fits)))

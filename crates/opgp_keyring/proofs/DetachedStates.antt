-- What the gathering of detached signatures says, with one more item.
use Rattle.std.proofs.Common.{◌≡◌, ℕ, true, false, List, [], ◌∷◌, ◌++◌, All, refl, sym, ap, subst, ◌∙◌, append_assoc, append-nil}
use Rattle.std.proofs.lemmas.List.Elements.{All-append, All-cons, All-nil}
use Rattle.opgp_octets.specs.declared.malformed.Malformed.{Malformed}
use Rattle.opgp_octets.specs.declared.fault.Fault.{Fault}
use Rattle.opgp_frame.specs.declared.packet.Placed.{Placed}
use Rattle.opgp_frame.specs.Packet.{PacketValue}
use Rattle.opgp_keyring.specs.declared.detached_gathering.DetachedState.{DetachedState}
use Rattle.opgp_keyring.specs.declared.detached_gathering.DetachedState.TheVariants.{Open, Disordered, Broken}
use Rattle.opgp_keyring.specs.Bodies.{HasNoFault, IsSound}
use Rattle.opgp_keyring.specs.Composed.{IsSoundItem}
use Rattle.opgp_keyring.specs.Composition.{Item, of_label, of_packet, placed_in, packets_in, labels_fit}
use Rattle.opgp_keyring.specs.Detached.{IsDetached, IsDetachedFaultAt, DetachedStopsAt}
use Rattle.opgp_keyring.specs.DetachedState.{AreOpen, IsDetachedIn, is_open_detached}
use Rattle.opgp_keyring.proofs.Feeding.{packets_push, packets_in-append, labels_fit-append, and_true, sound_push, body_fault_behind}
use Rattle.opgp_keyring.proofs.SignedStates.{sound_packets}
use Rattle.opgp_keyring.proofs.States.{sound_items, body_fault_after}

-- ---- the order

pub refused : (policy : Malformed) (given : List Item) (kept : List PacketValue) (i : Item) (f : Fault) → AreOpen policy given kept → IsSoundItem policy i → IsDetachedFaultAt i f
    → All (IsSound policy) (placed_in (given ++ i ∷ [])) × DetachedStopsAt (given ++ i ∷ []) f
refused policy given kept i f o sound here = (
  sound_items policy given i o.sound sound,
  record { before = given; at = i; after = []; whole = refl; types = subst (All IsDetached) o.flat o.types; labels = o.labels; here = here },
)

stop_stays : (given more : List Item) (f : Fault) → DetachedStopsAt given f → DetachedStopsAt (given ++ more) f
stop_stays given more f o = record {
  before = o.before;
  at = o.at;
  after = o.after ++ more;
  whole = ap (λ (l : List Item). l ++ more) o.whole ∙ append_assoc o.before (o.at ∷ o.after) more;
  types = o.types;
  labels = o.labels;
  here = o.here;
}

-- behind a fault nothing changes
pub behind : (policy : Malformed) (s : DetachedState) (given : List Item) (kept : List PacketValue) (i : Item) → IsSoundItem policy i → is_open_detached s ≡ false → IsDetachedIn policy s given kept → IsDetachedIn policy s (given ++ i ∷ []) kept
behind policy Open given kept i sound e is = absurd cc
behind policy (Disordered f) given kept i sound e is = (sound_items policy given i is.0 sound, stop_stays given (i ∷ []) f is.1)
behind policy (Broken f) given kept i sound e is = body_fault_after policy given i f is

-- a label that is the wanted one
pub labelled : (policy : Malformed) (s : DetachedState) (given : List Item) (kept : List PacketValue) (block : ℕ) → IsDetachedIn policy s given kept → IsDetachedIn policy s (given ++ of_label block true ∷ []) kept
labelled policy Open given kept block o = record {
  labels = labels_fit-append given (of_label block true ∷ []) ∙ and_true (labels_fit given) ∙ o.labels;
  sound = sound_items policy given (of_label block true) o.sound tt;
  flat = o.flat ∙ sym (packets_in-append given (of_label block true ∷ []) ∙ append-nil (packets_in given));
  types = o.types;
}
labelled policy (Disordered f) given kept block is = behind policy (Disordered f) given kept (of_label block true) tt refl is
labelled policy (Broken f) given kept block is = behind policy (Broken f) given kept (of_label block true) tt refl is

-- a packet that fits
pub followed : (policy : Malformed) (given : List Item) (kept more : List PacketValue) (p : Placed) → AreOpen policy given kept → IsSound policy p → IsDetached p.packet → more ≡ kept ++ p.packet ∷ [] → AreOpen policy (given ++ of_packet p ∷ []) more
followed policy given kept more p o sound here items = record {
  labels = labels_fit-append given (of_packet p ∷ []) ∙ and_true (labels_fit given) ∙ o.labels;
  sound = sound_push policy given p o.sound sound;
  flat = items ∙ ap (λ (l : List PacketValue). l ++ p.packet ∷ []) o.flat ∙ sym (packets_push given p);
  types = subst (All IsDetached) (sym items) (All-append IsDetached kept (p.packet ∷ []) o.types (All-cons IsDetached p.packet [] here (All-nil IsDetached)));
}

pub not_open : (s : DetachedState) → (s ≡ Open → ⊥) → is_open_detached s ≡ false
not_open Open none = absurd (none refl)
not_open (Disordered f) none = refl
not_open (Broken f) none = refl

-- a packet behind a fault
pub passed_over : (policy : Malformed) (s : DetachedState) (given : List Item) (kept : List PacketValue) (p : Placed) → (s ≡ Open → ⊥) → IsSound policy p → IsDetachedIn policy s given kept → IsDetachedIn policy s (given ++ of_packet p ∷ []) kept
passed_over policy s given kept p none sound is = behind policy s given kept (of_packet p) sound (not_open s none) is

-- ---- bodies

pub sound_before : (policy : Malformed) (s : DetachedState) (given : List Item) (kept : List PacketValue) → ((f : Fault) → s ≡ Broken f → ⊥) → IsDetachedIn policy s given kept → All (IsSound policy) (placed_in given)
sound_before policy Open given kept none o = o.sound
sound_before policy (Disordered f) given kept none is = is.0
sound_before policy (Broken f) given kept none is = absurd (none f refl)

pub broken : (policy : Malformed) (s : DetachedState) (given : List Item) (kept : List PacketValue) (p : Placed) (f : Fault) → s ≡ Broken f → IsDetachedIn policy s given kept → IsDetachedIn policy s (given ++ of_packet p ∷ []) kept
broken policy Open given kept p f e is = absurd cc
broken policy (Disordered g) given kept p f e is = absurd cc
broken policy (Broken g) given kept p f e is = body_fault_behind policy given p g is

pub kept_sound : (policy : Malformed) (items : List Item) (kept : List PacketValue) → AreOpen policy items kept → All (HasNoFault policy) kept
kept_sound policy items kept o = subst (All (HasNoFault policy)) (sym o.flat) (sound_packets policy items o.sound)

-- What a composer's state says, with one more item.
use Rattle.std.proofs.Common.{◌≡◌, ℕ, ◌<◌, true, false, List, [], ◌∷◌, ◌++◌, length, All, refl, sym, subst, ◌∙◌, append-nil}
use Rattle.opgp_octets.specs.declared.malformed.Malformed.{Malformed}
use Rattle.opgp_octets.specs.declared.limits.Limits.{Limits}
use Rattle.opgp_octets.specs.Limits.{cert_limit, malformed_of}
use Rattle.opgp_octets.specs.declared.fault.Fault.{Fault}
use Rattle.opgp_octets.specs.declared.fault.BodyFault.{BodyFault}
use Rattle.opgp_frame.specs.declared.packet.Placed.{Placed}
use Rattle.opgp_frame.specs.Packet.{PacketValue, spelling}
use Rattle.opgp_keyring.specs.declared.composer.State.{State}
use Rattle.opgp_keyring.specs.declared.composer.State.TheVariants.{Leading, Growing, Disordered, Broken, Spent}
use Rattle.opgp_octets.specs.Octets.{IsOctets}
use Rattle.opgp_keyring.specs.Bodies.{IsSound, IsFirstBodyFault, HasFault, placed_fault}
use Rattle.opgp_keyring.specs.Composed.{IsKeyringOf, IsSoundItem, PartValue}
use Rattle.opgp_keyring.specs.Composition.{Item, of_label, of_packet, placed_in, packets_in, labels_fit, Composes, IsOrderFault, IsFaultAt, AreKeyring}
use Rattle.opgp_keyring.specs.Fed.{IsFaultOf}
use Rattle.opgp_keyring.specs.Keyring.{KeyringValue, IsPrimary}
use Rattle.opgp_keyring.specs.State.{is_open, is_broken_state}
use Rattle.opgp_keyring.specs.Taken.{AreHandedOut}
use Rattle.opgp_keyring.proofs.Faults.{no_fault, no_body_fault}
use Rattle.opgp_keyring.proofs.HandedOut.{handed_in, handed_more}
use Rattle.opgp_keyring.proofs.Standing.{IsIn}
use Rattle.opgp_keyring.proofs.Feeding.{placed_in-append, packets_in-append, labels_fit-append, and_true, sound_push, order_fault_stays, order_fault_comes, body_fault_comes, body_fault_behind, begins_too_long}

-- an open state has a keyring
pub open_keyring : (limits : Limits) (s : State) (given : List Item) (parts : List PartValue) → IsIn limits s given parts → is_open s ≡ true → (r : KeyringValue) × IsKeyringOf limits given r
open_keyring limits (Leading lead) given parts i e = (_, i.stands)
open_keyring limits (Growing c) given parts i e = (_, i.stands)
open_keyring limits (Disordered f) given parts i e = absurd cc
open_keyring limits (Broken f) given parts i e = absurd cc
open_keyring limits Spent given parts i e = absurd cc

pub sound_items : (policy : Malformed) (given : List Item) (i : Item) → All (IsSound policy) (placed_in given) → IsSoundItem policy i → All (IsSound policy) (placed_in (given ++ i ∷ []))
sound_items policy given (of_label block fits) a s = subst (All (IsSound policy)) (sym (placed_in-append given (of_label block fits ∷ []) ∙ append-nil (placed_in given))) a
sound_items policy given (of_packet p) a s = sound_push policy given p a s

-- ---- faults

-- with an item that brings or follows a fault nothing is handed out
behind_order : (limits : Limits) (given : List Item) (i : Item) (parts : List PartValue) (f : Fault) → AreHandedOut limits given parts → All (IsSound (malformed_of limits)) (placed_in given) → IsSoundItem (malformed_of limits) i → IsOrderFault limits (given ++ i ∷ []) f
    → AreHandedOut limits (given ++ i ∷ []) parts × IsFaultOf false limits (given ++ i ∷ []) f
behind_order limits given i parts f h all sound o = (handed_more limits given i parts h (λ r k. no_fault limits (given ++ i ∷ []) r f k o), (sound_items (malformed_of limits) given i all sound, o))

behind_body : (limits : Limits) (given : List Item) (i : Item) (parts : List PartValue) (f : Fault) → AreHandedOut limits given parts → IsFirstBodyFault (malformed_of limits) (placed_in (given ++ i ∷ [])) f
    → AreHandedOut limits (given ++ i ∷ []) parts × IsFaultOf true limits (given ++ i ∷ []) f
behind_body limits given i parts f h b = (handed_more limits given i parts h (λ r k. no_body_fault limits (given ++ i ∷ []) r f k b), b)

-- the first fault of the order
pub refused : (limits : Limits) (s : State) (given : List Item) (parts : List PartValue) (i : Item) (f : Fault) → IsIn limits s given parts → IsSoundItem (malformed_of limits) i → is_open s ≡ true
    → IsFaultAt limits (packets_in given) i f → AreHandedOut limits (given ++ i ∷ []) parts × IsFaultOf false limits (given ++ i ∷ []) f
refused limits s given parts i f is sound e here =
    let k = open_keyring limits s given parts is e in
    behind_order limits given i parts f (handed_in limits s given parts is).out k.1.sound sound (order_fault_comes limits given i k.0 f k.1 here)

pub body_fault_after : (policy : Malformed) (given : List Item) (i : Item) (f : Fault) → IsFirstBodyFault policy (placed_in given) f → IsFirstBodyFault policy (placed_in (given ++ i ∷ [])) f
body_fault_after policy given (of_label block fits) f b = subst (λ (l : List Placed). IsFirstBodyFault policy l f) (sym (placed_in-append given (of_label block fits ∷ []) ∙ append-nil (placed_in given))) b
body_fault_after policy given (of_packet p) f b = body_fault_behind policy given p f b

-- behind a fault nothing changes
pub behind : (limits : Limits) (s : State) (given : List Item) (parts : List PartValue) (i : Item) → IsIn limits s given parts → IsSoundItem (malformed_of limits) i → is_open s ≡ false → IsIn limits s (given ++ i ∷ []) parts
behind limits (Leading lead) given parts i is sound e = absurd cc
behind limits (Growing c) given parts i is sound e = absurd cc
behind limits (Disordered f) given parts i is sound e = behind_order limits given i parts f is.0 is.1.0 sound (order_fault_stays limits given (i ∷ []) f is.1.1)
behind limits (Broken f) given parts i is sound e = behind_body limits given i parts f is.0 (body_fault_after (malformed_of limits) given i f is.1)
behind limits Spent given parts i is sound e = is

-- a label that is the wanted one
pub label_push : (limits : Limits) (given : List Item) (block : ℕ) (r : KeyringValue) → IsKeyringOf limits given r → IsKeyringOf limits (given ++ of_label block true ∷ []) r
label_push limits given block r k = record {
  labels = labels_fit-append given (of_label block true ∷ []) ∙ and_true (labels_fit given) ∙ k.labels;
  sound = sound_items (malformed_of limits) given (of_label block true) k.sound tt;
  composes = subst (λ (l : List PacketValue). Composes limits l r) (sym (packets_in-append given (of_label block true ∷ []) ∙ append-nil (packets_in given))) k.composes;
}

pub labelled : (limits : Limits) (s : State) (given : List Item) (parts : List PartValue) (block : ℕ) → IsIn limits s given parts → IsIn limits s (given ++ of_label block true ∷ []) parts
labelled limits (Leading lead) given parts block is = record { stands = label_push limits given block _ is.stands; none = is.none }
labelled limits (Growing c) given parts block is = record { lead = is.lead; done = is.done; stands = label_push limits given block _ is.stands; so_far = is.so_far }
labelled limits (Disordered f) given parts block is = behind limits (Disordered f) given parts (of_label block true) is tt refl
labelled limits (Broken f) given parts block is = behind limits (Broken f) given parts (of_label block true) is tt refl
labelled limits Spent given parts block is = is

-- before a body at fault all are sound
sound_before : (limits : Limits) (s : State) (given : List Item) (parts : List PartValue) → IsIn limits s given parts → is_broken_state s ≡ false → All (IsSound (malformed_of limits)) (placed_in given)
sound_before limits (Leading lead) given parts is e = is.stands.sound
sound_before limits (Growing c) given parts is e = is.stands.sound
sound_before limits (Disordered f) given parts is e = is.1.0
sound_before limits (Broken f) given parts is e = absurd cc
sound_before limits Spent given parts is e = absurd is

pub breaks : (limits : Limits) (s : State) (given : List Item) (parts : List PartValue) (p : Placed) (why : BodyFault) → IsIn limits s given parts → is_broken_state s ≡ false → IsOctets p.packet.body → HasFault (malformed_of limits) p.packet why
    → AreHandedOut limits (given ++ of_packet p ∷ []) parts × IsFaultOf true limits (given ++ of_packet p ∷ []) (placed_fault p why)
breaks limits s given parts p why is e octets here =
    behind_body limits given (of_packet p) parts (placed_fault p why) (handed_in limits s given parts is).out (body_fault_comes (malformed_of limits) given p why (sound_before limits s given parts is e) octets here)

pub broken : (limits : Limits) (s : State) (given : List Item) (parts : List PartValue) (p : Placed) → IsIn limits s given parts → is_broken_state s ≡ true → IsIn limits s (given ++ of_packet p ∷ []) parts
broken limits (Leading lead) given parts p is e = absurd cc
broken limits (Growing c) given parts p is e = absurd cc
broken limits (Disordered f) given parts p is e = absurd cc
broken limits (Broken f) given parts p is e = behind_body limits given (of_packet p) parts f is.0 (body_fault_behind (malformed_of limits) given p f is.1)
broken limits Spent given parts p is e = absurd is

-- a primary key that is too long
pub begins_long : (limits : Limits) (s : State) (given : List Item) (parts : List PartValue) (p : Placed) → IsIn limits s given parts → is_open s ≡ true → IsPrimary p.packet → cert_limit limits < length (spelling p.packet)
    → AreKeyring limits (packets_in given ++ p.packet ∷ []) → ⊥
begins_long limits s given parts p is e primary long =
    let k = open_keyring limits s given parts is e in begins_too_long limits k.0 given p k.1 primary long

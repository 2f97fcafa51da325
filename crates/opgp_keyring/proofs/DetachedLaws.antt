-- Labels and packets have one answer: detached signatures, or a fault.
use Rattle.std.proofs.Common.{◌≡◌, ℕ, ◌<◌, Bool, true, false, ◌⊎◌, inl, inr, List, [], ◌∷◌, ◌++◌, All, length, refl, sym, ap, subst, ◌∙◌, arith}
use Rattle.std.proofs.lemmas.List.Elements.{All-cons, All-nil}
use Rattle.opgp_octets.specs.declared.malformed.Malformed.{Malformed}
use Rattle.opgp_octets.specs.declared.fault.Fault.{Fault}
use Rattle.opgp_octets.specs.declared.fault.Reason.TheVariants.{BlockLabel, NotASignature}
use Rattle.opgp_frame.specs.declared.packet.Placed.{Placed}
use Rattle.opgp_frame.specs.Packet.{PacketValue}
use Rattle.opgp_keyring.specs.Bodies.{IsSound}
use Rattle.opgp_keyring.specs.Composed.{HasOctets}
use Rattle.opgp_keyring.specs.Composition.{Item, of_label, of_packet, placed_in, packets_in, labels_fit, fault_at}
use Rattle.opgp_keyring.specs.Detached.{IsDetached, IsDetachedFault, IsDetachedFaultAt, IsDetachedOf, DetachedStopsAt, LacksSignature, is_detached_type}
use Rattle.opgp_keyring.specs.Signed.{IsSignedFault, IsSignedOf, end_block, end_pos, signature_bodies}
use Rattle.opgp_keyring.proofs.Faults.{label_fails, middle}
use Rattle.opgp_keyring.proofs.Feeding.{packets_in-append}
use Rattle.opgp_keyring.proofs.OneFault.{Two, same, before, behind, two, OneBodyFault, body_by, none_sound}

-- ---- one fault

-- what is at fault stands among no detached signatures
at_fails : (front after : List Item) (at : Item) (f : Fault) → All IsDetached (packets_in (front ++ at ∷ after)) → labels_fit (front ++ at ∷ after) ≡ true → IsDetachedFaultAt at f → ⊥
at_fails front after (of_label block fits) f types labels here =
    label_fails front after block (subst (λ (b : Bool). labels_fit (front ++ of_label block b ∷ after) ≡ true) here.0 labels)
at_fails front after (of_packet p) f types labels here =
    let own : is_detached_type p.packet.kind ≡ true = middle IsDetached (packets_in front) p.packet (packets_in after) (subst (All IsDetached) (packets_in-append front (of_packet p ∷ after)) types) in
    let never : true ≡ false = sym own ∙ here.0 in
    absurd cc

stop_fails : (items : List Item) (f : Fault) → All IsDetached (packets_in items) → labels_fit items ≡ true → DetachedStopsAt items f → ⊥
stop_fails items f types labels o =
    at_fails o.before o.after o.at f (subst (λ (l : List Item). All IsDetached (packets_in l)) o.whole types) (subst (λ (l : List Item). labels_fit l ≡ true) o.whole labels) o.here

one_here : (at : Item) (f g : Fault) → IsDetachedFaultAt at f → IsDetachedFaultAt at g → f ≡ g
one_here (of_label block fits) f g p q = p.1 ∙ sym q.1
one_here (of_packet x) f g p q = p.1 ∙ sym q.1

stop_by : (items : List Item) (f g : Fault) (o : DetachedStopsAt items f) (q : DetachedStopsAt items g) → Two o.before q.before o.at q.at → f ≡ g
stop_by items f g o q (same xs at) = one_here q.at f g (subst (λ (i : Item). IsDetachedFaultAt i f) at o.here) q.here
stop_by items f g o q (before more e) =
    absurd (at_fails o.before more o.at f (subst (λ (l : List Item). All IsDetached (packets_in l)) e q.types) (subst (λ (l : List Item). labels_fit l ≡ true) e q.labels) o.here)
stop_by items f g o q (behind more e) =
    absurd (at_fails q.before more q.at g (subst (λ (l : List Item). All IsDetached (packets_in l)) e o.types) (subst (λ (l : List Item). labels_fit l ≡ true) e o.labels) q.here)

one_order : (items : List Item) (f g : Fault) → DetachedStopsAt items f ⊎ LacksSignature (end_pos items) items f → DetachedStopsAt items g ⊎ LacksSignature (end_pos items) items g → f ≡ g
one_order items f g (inl o) (inl q) = stop_by items f g o q (two o.before q.before o.after q.after o.at q.at (sym o.whole ∙ q.whole))
one_order items f g (inl o) (inr q) = absurd (stop_fails items f q.types q.labels o)
one_order items f g (inr o) (inl q) = absurd (stop_fails items g o.types o.labels q)
one_order items f g (inr o) (inr q) = o.is ∙ sym q.is

pub one_detached_fault : (policy : Malformed) (one : OneBodyFault) (items : List Item) (f g : Fault) → IsDetachedFault policy items f → IsDetachedFault policy items g → f ≡ g
one_detached_fault policy one items f g (inl b) (inl q) = body_by policy one (placed_in items) f g b q (two b.before q.before b.after q.after b.at q.at (sym b.whole ∙ q.whole))
one_detached_fault policy one items f g (inl b) (inr o) = absurd (none_sound policy (placed_in items) f o.0 b)
one_detached_fault policy one items f g (inr o) (inl b) = absurd (none_sound policy (placed_in items) g o.0 b)
one_detached_fault policy one items f g (inr o) (inr q) = one_order items f g o.1 q.1

-- ---- no fault

none_and_some : (bodies : List (List ℕ)) → bodies ≡ [] → 0 < length bodies → ⊥
none_and_some bodies none some = let never : 0 < 0 = subst (λ (l : List (List ℕ)). 0 < length l) none some in absurd (omega arith)

order_fails : (policy : Malformed) (items : List Item) (ps : List PacketValue) (f : Fault) → IsDetachedOf policy items ps → DetachedStopsAt items f ⊎ LacksSignature (end_pos items) items f → ⊥
order_fails policy items ps f k (inl o) = stop_fails items f (subst (All IsDetached) k.flat k.detached.types) k.labels o
order_fails policy items ps f k (inr e) = none_and_some (signature_bodies ps) (ap signature_bodies k.flat ∙ e.lacks) k.detached.some

pub no_detached_fault : (policy : Malformed) (items : List Item) (ps : List PacketValue) (f : Fault) → IsDetachedOf policy items ps → IsDetachedFault policy items f → ⊥
no_detached_fault policy items ps f k (inl b) = none_sound policy (placed_in items) f k.sound b
no_detached_fault policy items ps f k (inr o) = order_fails policy items ps f k o.1

-- ---- some answer

-- the items are fit so far
record AreFit (items : List Item) : Type 0 where
  pub types : All IsDetached (packets_in items)
  pub labels : labels_fit items ≡ true

abbrev Order : List Item → Type 0
Order items = ((f : Fault) × DetachedStopsAt items f) ⊎ AreFit items

stops_here : (i : Item) (items : List Item) (f : Fault) → IsDetachedFaultAt i f → DetachedStopsAt (i ∷ items) f
stops_here i items f here = record { before = []; at = i; after = items; whole = refl; types = All-nil IsDetached; labels = refl; here = here }

stops_behind : (front : Item) (items : List Item) (f : Fault) (o : DetachedStopsAt items f) → All IsDetached (packets_in (front ∷ o.before)) → labels_fit (front ∷ o.before) ≡ true → DetachedStopsAt (front ∷ items) f
stops_behind front items f o types labels = record { before = front ∷ o.before; at = o.at; after = o.after; whole = ap (λ (l : List Item). front ∷ l) o.whole; types = types; labels = labels; here = o.here }

label_first : (block : ℕ) (fits : Bool) (items : List Item) → Order items → Order (of_label block fits ∷ items)
label_first block false items r = inl (fault_at BlockLabel block 0, stops_here (of_label block false) items (fault_at BlockLabel block 0) (refl, refl))
label_first block true items (inl (f, o)) = inl (f, stops_behind (of_label block true) items f o o.types o.labels)
label_first block true items (inr fit) = inr (record { types = fit.types; labels = fit.labels })

packet_first : (p : Placed) (fits : Bool) (items : List Item) → is_detached_type p.packet.kind ≡ fits → Order items → Order (of_packet p ∷ items)
packet_first p false items e r = inl (fault_at NotASignature p.block p.pos, stops_here (of_packet p) items (fault_at NotASignature p.block p.pos) (e, refl))
packet_first p true items e (inl (f, o)) = inl (f, stops_behind (of_packet p) items f o (All-cons IsDetached p.packet (packets_in o.before) e o.types) o.labels)
packet_first p true items e (inr fit) = inr (record { types = All-cons IsDetached p.packet (packets_in items) e fit.types; labels = fit.labels })

order_of : (items : List Item) → Order items
order_of [] = inr (record { types = All-nil IsDetached; labels = refl })
order_of (of_label block fits ∷ items) = label_first block fits items (order_of items)
order_of (of_packet p ∷ items) = packet_first p (is_detached_type p.packet.kind) items refl (order_of items)

abbrev pub Answer : Malformed → List Item → Type 0
Answer policy items = ((ps : List PacketValue) × IsDetachedOf policy items ps) ⊎ ((f : Fault) × IsDetachedFault policy items f)

fit : (policy : Malformed) (items : List Item) (bodies : List (List ℕ)) → signature_bodies (packets_in items) ≡ bodies → All (IsSound policy) (placed_in items) → AreFit items → Answer policy items
fit policy items [] e sound k = inr (fault_at NotASignature (end_block items) (end_pos items), inr (sound, inr (record { types = k.types; labels = k.labels; lacks = e; is = refl })))
fit policy items (body ∷ more) e sound k =
    inl (packets_in items, record { labels = k.labels; sound = sound; flat = refl; detached = record { types = k.types; some = subst (λ (l : List (List ℕ)). 0 < length l) (sym e) (omega arith) } })

sound_answer : (policy : Malformed) (items : List Item) → All (IsSound policy) (placed_in items) → Order items → Answer policy items
sound_answer policy items sound (inl (f, o)) = inr (f, inr (sound, inl o))
sound_answer policy items sound (inr k) = fit policy items (signature_bodies (packets_in items)) refl sound k

-- what is known of signed literals: bodies are sound there, or one is at fault
abbrev pub SomeSigned : Type 0
SomeSigned = (policy : Malformed) (items : List Item) → All HasOctets items → ((ps : List PacketValue) × IsSignedOf policy items ps) ⊎ ((f : Fault) × IsSignedFault policy items f)

pub some_detached_answer : SomeSigned → (policy : Malformed) (items : List Item) → All HasOctets items → Answer policy items
some_detached_answer law policy items octets = elim (law policy items octets) [
  | inl r ↦ sound_answer policy items r.1.sound (order_of items)
  | inr f ↦ elim f.1 [
    | inl body ↦ inr (f.0, inl body)
    | inr order ↦ sound_answer policy items order.0 (order_of items)
  ]
]

-- Items have one fault.
use Rattle.std.proofs.Common.{◌≡◌, ℕ, Bool, true, inl, inr, List, [], ◌∷◌, ◌++◌, All, refl, sym, ap, subst, ◌∙◌, append_assoc}
use Rattle.opgp_octets.specs.Limits.{malformed_of}
use Rattle.opgp_octets.specs.declared.malformed.Malformed.{Malformed}
use Rattle.opgp_octets.specs.declared.limits.Limits.{Limits}
use Rattle.opgp_octets.specs.declared.fault.Fault.{Fault}
use Rattle.opgp_octets.specs.declared.fault.BodyFault.{BodyFault}
use Rattle.opgp_octets.specs.Octets.{IsOctets}
use Rattle.opgp_octets.specs.PacketType.{packet_type_of}
use Rattle.opgp_octets.specs.declared.packet_type.PacketType.{PacketType}
use Rattle.opgp_frame.specs.declared.packet.Placed.{Placed}
use Rattle.opgp_frame.specs.Packet.{PacketValue}
use Rattle.opgp_keyring.specs.PacketBody.{HasBodyFault}
use Rattle.opgp_keyring.specs.Bodies.{IsSound, IsFirstBodyFault, HasFault, HasNoFault, placed_fault}
use Rattle.opgp_keyring.specs.Composed.{IsFault}
use Rattle.opgp_keyring.specs.Composition.{Item, of_label, of_packet, placed_in, packets_in, labels_fit, AreKeyring, IsOrderFault, IsFaultAt}
use Rattle.opgp_keyring.proofs.Faults.{label_fails, middle}
use Rattle.opgp_keyring.proofs.Feeding.{packets_in-append}
use Rattle.opgp_keyring.proofs.Prefixes.{prefix}

-- two elements of one list: they are one, or the one stands before the other
pub data Two {X : Type 0} (xs ys : List X) (a b : X) : Type 0 where
  same : xs ≡ ys → a ≡ b → Two xs ys a b
  before : (more : List X) → ys ≡ xs ++ a ∷ more → Two xs ys a b
  behind : (more : List X) → xs ≡ ys ++ b ∷ more → Two xs ys a b

longer : {X : Type 0} (x y : X) (xs ys : List X) (a b : X) → x ≡ y → Two xs ys a b → Two (x ∷ xs) (y ∷ ys) a b
longer {X} x y xs ys a b e (same p q) = same (ap (λ (z : X). z ∷ xs) e ∙ ap (λ (l : List X). y ∷ l) p) q
longer {X} x y xs ys a b e (before more p) = before more (ap (λ (l : List X). y ∷ l) p ∙ ap (λ (z : X). z ∷ (xs ++ a ∷ more)) (sym e))
longer {X} x y xs ys a b e (behind more p) = behind more (ap (λ (l : List X). x ∷ l) p ∙ ap (λ (z : X). z ∷ (ys ++ b ∷ more)) e)

pub two : {X : Type 0} (xs ys us ws : List X) (a b : X) → xs ++ a ∷ us ≡ ys ++ b ∷ ws → Two xs ys a b
two [] [] us ws a b e = same refl (let h : a ≡ b = cc in h)
two {X} [] (y ∷ ys) us ws a b e = before ys (ap (λ (z : X). z ∷ ys) (let h : y ≡ a = cc in h))
two {X} (x ∷ xs) [] us ws a b e = behind xs (ap (λ (z : X). z ∷ xs) (let h : x ≡ b = cc in h))
two (x ∷ xs) (y ∷ ys) us ws a b e =
    let head : x ≡ y = cc in
    let tail : xs ++ a ∷ us ≡ ys ++ b ∷ ws = cc in
    longer x y xs ys a b head (two xs ys us ws a b tail)

-- what is at fault stands in no keyring
at_fails : (limits : Limits) (front after : List Item) (at : Item) (f : Fault) → AreKeyring limits (packets_in (front ++ at ∷ after)) → labels_fit (front ++ at ∷ after) ≡ true → IsFaultAt limits (packets_in front) at f → ⊥
at_fails limits front after (of_label block fits) f k labels here =
    label_fails front after block (subst (λ (b : Bool). labels_fit (front ++ of_label block b ∷ after) ≡ true) here.0 labels)
at_fails limits front after (of_packet p) f k labels here =
    let whole : packets_in (front ++ of_packet p ∷ after) ≡ (packets_in front ++ p.packet ∷ []) ++ packets_in after =
    packets_in-append front (of_packet p ∷ after) ∙ sym (append_assoc (packets_in front) (p.packet ∷ []) (packets_in after)) in
    here.0 (prefix limits (packets_in front ++ p.packet ∷ []) (packets_in after) (subst (AreKeyring limits) whole k))

one_here : (limits : Limits) (ps : List PacketValue) (at : Item) (f g : Fault) → IsFaultAt limits ps at f → IsFaultAt limits ps at g → f ≡ g
one_here limits ps (of_label block fits) f g p q = p.1 ∙ sym q.1
one_here limits ps (of_packet x) f g p q = p.1 ∙ sym q.1

order_by : (limits : Limits) (items : List Item) (f g : Fault) (o : IsOrderFault limits items f) (q : IsOrderFault limits items g) → Two o.before q.before o.at q.at → f ≡ g
order_by limits items f g o q (same xs at) =
    one_here limits (packets_in q.before) q.at f g (subst (λ (i : Item). IsFaultAt limits (packets_in q.before) i f) at (subst (λ (l : List Item). IsFaultAt limits (packets_in l) o.at f) xs o.here)) q.here
order_by limits items f g o q (before more e) =
    absurd (at_fails limits o.before more o.at f (subst (λ (l : List Item). AreKeyring limits (packets_in l)) e q.keyring) (subst (λ (l : List Item). labels_fit l ≡ true) e q.labels) o.here)
order_by limits items f g o q (behind more e) =
    absurd (at_fails limits q.before more q.at g (subst (λ (l : List Item). AreKeyring limits (packets_in l)) e o.keyring) (subst (λ (l : List Item). labels_fit l ≡ true) e o.labels) q.here)

one_order_fault : (limits : Limits) (items : List Item) (f g : Fault) → IsOrderFault limits items f → IsOrderFault limits items g → f ≡ g
one_order_fault limits items f g o q = order_by limits items f g o q (two o.before q.before o.after q.after o.at q.at (sym o.whole ∙ q.whole))

sound_fails : (policy : Malformed) (ps : List Placed) (p : Placed) (more : List Placed) (why : BodyFault) → All (IsSound policy) (ps ++ p ∷ more) → HasFault policy p.packet why → ⊥
sound_fails policy ps p more why a here = let s : HasNoFault policy p.packet = middle (IsSound policy) ps p more a in s why here

-- a body has one fault
abbrev pub OneBodyFault : Type 0
OneBodyFault = (policy : Malformed) (kind : PacketType) (o : List ℕ) (f g : BodyFault) → IsOctets o → HasBodyFault policy kind o f → HasBodyFault policy kind o g → f ≡ g

pub body_by : (policy : Malformed) (one : OneBodyFault) (ps : List Placed) (f g : Fault) (b : IsFirstBodyFault policy ps f) (q : IsFirstBodyFault policy ps g) → Two b.before q.before b.at q.at → f ≡ g
body_by policy one ps f g b q (same xs at) =
    let here : HasFault policy q.at.packet b.why = subst (λ (p : Placed). HasFault policy p.packet b.why) at b.here in
    let why : b.why ≡ q.why = one policy (packet_type_of q.at.packet.kind) q.at.packet.body b.why q.why q.octets here q.here in
    b.is ∙ ap (λ (p : Placed). placed_fault p b.why) at ∙ ap (placed_fault q.at) why ∙ sym q.is
body_by policy one ps f g b q (before more e) = absurd (sound_fails policy b.before b.at more b.why (subst (All (IsSound policy)) e q.sound) b.here)
body_by policy one ps f g b q (behind more e) = absurd (sound_fails policy q.before q.at more q.why (subst (All (IsSound policy)) e b.sound) q.here)

pub none_sound : (policy : Malformed) (ps : List Placed) (f : Fault) → All (IsSound policy) ps → IsFirstBodyFault policy ps f → ⊥
none_sound policy ps f a b = sound_fails policy b.before b.at b.after b.why (subst (All (IsSound policy)) b.whole a) b.here

pub one_fault : (one : OneBodyFault) (limits : Limits) (items : List Item) (f g : Fault) → IsFault limits items f → IsFault limits items g → f ≡ g
one_fault one limits items f g (inl b) (inl q) = body_by (malformed_of limits) one (placed_in items) f g b q (two b.before q.before b.after q.after b.at q.at (sym b.whole ∙ q.whole))
one_fault one limits items f g (inl b) (inr o) = absurd (none_sound (malformed_of limits) (placed_in items) f o.0 b)
one_fault one limits items f g (inr o) (inl b) = absurd (none_sound (malformed_of limits) (placed_in items) g o.0 b)
one_fault one limits items f g (inr o) (inr q) = one_order_fault limits items f g o.1 q.1

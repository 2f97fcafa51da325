-- Items that are a keyring have no fault.
use Rattle.std.proofs.Common.{◌≡◌, ℕ, Bool, true, false, ◌&&◌, List, [], ◌∷◌, ◌++◌, All, sym, subst, ◌∙◌, append_assoc}
use Rattle.std.proofs.lemmas.List.Elements.{All-head, All-tail}
use Rattle.opgp_octets.specs.Limits.{malformed_of}
use Rattle.opgp_octets.specs.declared.limits.Limits.{Limits}
use Rattle.opgp_octets.specs.declared.fault.Fault.{Fault}
use Rattle.opgp_frame.specs.Packet.{PacketValue}
use Rattle.opgp_keyring.specs.Bodies.{IsSound, IsFirstBodyFault}
use Rattle.opgp_keyring.specs.Composed.{IsKeyringOf}
use Rattle.opgp_keyring.specs.Composition.{Item, of_label, of_packet, placed_in, packets_in, labels_fit, Composes, IsOrderFault, IsFaultAt}
use Rattle.opgp_keyring.specs.Keyring.{KeyringValue}
use Rattle.opgp_keyring.proofs.Feeding.{packets_in-append}
use Rattle.opgp_keyring.proofs.Prefixes.{prefix}

-- in the middle of what is sound nothing is at fault
pub middle : {X : Type 0} (P : X → Type 0) (before : List X) (x : X) (after : List X) → All P (before ++ x ∷ after) → P x
middle P [] x after a = All-head P x after a
middle P (y ∷ before) x after a = middle P before x after (All-tail P y (before ++ x ∷ after) a)

pub no_body_fault : (limits : Limits) (given : List Item) (r : KeyringValue) (f : Fault) → IsKeyringOf limits given r → IsFirstBodyFault (malformed_of limits) (placed_in given) f → ⊥
no_body_fault limits given r f k b =
    let sound : IsSound (malformed_of limits) b.at = middle (IsSound (malformed_of limits)) b.before b.at b.after (subst (All (IsSound (malformed_of limits))) b.whole k.sound) in
    sound b.why b.here

and_right : (a b : Bool) → (a && b) ≡ true → b ≡ true
and_right true b e = e
and_right false b e = absurd cc

pub label_fails : (before after : List Item) (block : ℕ) → labels_fit (before ++ of_label block false ∷ after) ≡ true → ⊥
label_fails [] after block e = cc
label_fails (of_label b fits ∷ before) after block e = label_fails before after block (and_right fits (labels_fit (before ++ of_label block false ∷ after)) e)
label_fails (of_packet p ∷ before) after block e = label_fails before after block e

here_fails : (limits : Limits) (before after : List Item) (at : Item) (r : KeyringValue) (f : Fault) → IsKeyringOf limits (before ++ at ∷ after) r → IsFaultAt limits (packets_in before) at f → ⊥
here_fails limits before after (of_label block fits) r f k here =
    label_fails before after block (subst (λ (b : Bool). labels_fit (before ++ of_label block b ∷ after) ≡ true) here.0 k.labels)
here_fails limits before after (of_packet p) r f k here =
    let whole : packets_in (before ++ of_packet p ∷ after) ≡ (packets_in before ++ p.packet ∷ []) ++ packets_in after =
    packets_in-append before (of_packet p ∷ after) ∙ sym (append_assoc (packets_in before) (p.packet ∷ []) (packets_in after)) in
    here.0 (prefix limits (packets_in before ++ p.packet ∷ []) (packets_in after) (r, subst (λ (ps : List PacketValue). Composes limits ps r) whole k.composes))

pub no_fault : (limits : Limits) (given : List Item) (r : KeyringValue) (f : Fault) → IsKeyringOf limits given r → IsOrderFault limits given f → ⊥
no_fault limits given r f k o = here_fails limits o.before o.after o.at r f (subst (λ (items : List Item). IsKeyringOf limits items r) o.whole k) o.here

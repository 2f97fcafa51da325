-- A top has one answer at most.
use Rattle.std.proofs.Common.{◌≡◌, ℕ, Bool, List, [], ◌∷◌, ◌++◌, All, map, refl, sym, ap, subst, ◌∙◌, inl, Ok, Err}
use Rattle.std.proofs.lemmas.List.Elements.{All-head, All-tail}
use Rattle.opgp_octets.specs.declared.malformed.Malformed.{Malformed}
use Rattle.opgp_octets.specs.Limits.{malformed_of}
use Rattle.opgp_octets.specs.declared.fault.Fault.{Fault}
use Rattle.opgp_octets.specs.declared.limits.Limits.{Limits}
use Rattle.opgp_frame.specs.declared.packet.Placed.{Placed}
use Rattle.opgp_keyring.specs.Bodies.{IsSound, IsFirstBodyFault}
use Rattle.opgp_keyring.specs.Composed.{IsKeyringOf, IsFault}
use Rattle.opgp_keyring.specs.Composition.{Item, of_label, of_packet, placed_in}
use Rattle.opgp_keyring.specs.Detached.{IsDetachedFault, IsDetachedOf}
use Rattle.opgp_keyring.specs.Keyring.{KeyringValue, IsKeyring, flat}
use Rattle.opgp_keyring.specs.Signed.{IsSignedFault, IsSignedOf}
use Rattle.opgp_frame.specs.Packet.{PacketValue}
use Rattle.opgp_codec.specs.Keyrings.{ComposesTo}
use Rattle.opgp_codec.specs.Packets.{ArePackets, BlockValue, items_in}
use Rattle.opgp_codec.specs.Reading.{IsOne}
use Rattle.opgp_codec.specs.Signatures.{AreDetachedSignatures}
use Rattle.opgp_codec.specs.Signed.{AreSigned}

-- what composition promises of its definitions
pub record RingIsOne : Type 0 where
  pub ring : (r s : KeyringValue) → IsKeyring r → IsKeyring s → flat r ≡ flat s → r ≡ s
  pub fault : (limits : Limits) (items : List Item) (f g : Fault) → IsFault limits items f → IsFault limits items g → f ≡ g
  pub no_fault : (limits : Limits) (items : List Item) (r : KeyringValue) (f : Fault) → IsKeyringOf limits items r → IsFault limits items f → ⊥

pub one_ring : RingIsOne → (limits : Limits) → IsOne (ComposesTo limits)
one_ring w limits items (Ok r) (Ok s) h k = ap Ok (w.ring r s h.composes.keyring k.composes.keyring (h.composes.whole ∙ sym k.composes.whole))
one_ring w limits items (Ok r) (Err f) h k = absurd (w.no_fault limits items r f h k)
one_ring w limits items (Err f) (Ok r) h k = absurd (w.no_fault limits items r f k h)
one_ring w limits items (Err f) (Err g) h k = ap Err (w.fault limits items f g h k)

-- ---- blocks of packets
same_block : (a b : BlockValue) → a.number ≡ b.number → a.fits ≡ b.fits → a.packets ≡ b.packets → a ≡ b
same_block a b number fits packets =
    let by_number : ℕ → BlockValue = λ v. record { number = v; fits = a.fits; packets = a.packets } in
    let by_fits : Bool → BlockValue = λ v. record { number = b.number; fits = v; packets = a.packets } in
    let by_packets : List Placed → BlockValue = λ v. record { number = b.number; fits = b.fits; packets = v } in
    ap by_number number ∙ ap by_fits fits ∙ ap by_packets packets

-- packets, and what comes from the next label on
one_run : (ps qs : List Placed) (xs ys : List BlockValue) → map of_packet ps ++ items_in xs ≡ map of_packet qs ++ items_in ys → (ps ≡ qs) × (items_in xs ≡ items_in ys)
one_run [] [] xs ys e = (refl, e)
one_run [] (q ∷ qs) [] ys e = cc
one_run [] (q ∷ qs) (a ∷ xs) ys e = cc
one_run (p ∷ ps) [] xs [] e = cc
one_run (p ∷ ps) [] xs (b ∷ ys) e = cc
one_run (p ∷ ps) (q ∷ qs) xs ys e =
    let head : p ≡ q = cc in
    let tail : map of_packet ps ++ items_in xs ≡ map of_packet qs ++ items_in ys = cc in
    let r = one_run ps qs xs ys tail in
    (ap (λ (x : Placed). x ∷ ps) head ∙ ap (λ (l : List Placed). q ∷ l) r.0, r.1)

one_blocks : (xs ys : List BlockValue) → items_in xs ≡ items_in ys → xs ≡ ys
one_blocks [] [] e = refl
one_blocks [] (b ∷ ys) e = cc
one_blocks (a ∷ xs) [] e = cc
one_blocks (a ∷ xs) (b ∷ ys) e =
    let label : of_label a.number a.fits ≡ of_label b.number b.fits = cc in
    let number : a.number ≡ b.number = cc in
    let fits : a.fits ≡ b.fits = cc in
    let rest : map of_packet a.packets ++ items_in xs ≡ map of_packet b.packets ++ items_in ys = cc in
    let r = one_run a.packets b.packets xs ys rest in
    ap (λ (x : BlockValue). x ∷ xs) (same_block a b number fits r.0) ∙ ap (λ (l : List BlockValue). b ∷ l) (one_blocks xs ys r.1)

sound_at : (policy : Malformed) (before : List Placed) (at : Placed) (after : List Placed) → All (IsSound policy) (before ++ at ∷ after) → IsSound policy at
sound_at policy [] at after a = All-head (IsSound policy) at after a
sound_at policy (p ∷ before) at after a = sound_at policy before at after (All-tail (IsSound policy) p (before ++ at ∷ after) a)

sound_or_fault : (policy : Malformed) (ps : List Placed) (f : Fault) → All (IsSound policy) ps → IsFirstBodyFault policy ps f → ⊥
sound_or_fault policy ps f a b = sound_at policy b.before b.at b.after (subst (All (IsSound policy)) b.whole a) b.why b.here

pub one_packets : RingIsOne → (limits : Limits) → IsOne (ArePackets limits)
one_packets w limits items (Ok a) (Ok b) h k = ap Ok (one_blocks a b (h.0 ∙ sym k.0))
one_packets w limits items (Ok a) (Err f) h k = absurd (sound_or_fault (malformed_of limits) (placed_in items) f h.1 k)
one_packets w limits items (Err f) (Ok a) h k = absurd (sound_or_fault (malformed_of limits) (placed_in items) f k.1 h)
one_packets w limits items (Err f) (Err g) h k = ap Err (w.fault limits items f g (inl h) (inl k))

-- ---- lists of packets
-- what composition promises of its definitions: of the packets that items are, and of their faults
pub record ListIsOne (IsOf : Malformed → List Item → List PacketValue → Type 0) (IsFaultOf : Malformed → List Item → Fault → Type 0) : Type 0 where
  pub whole : (policy : Malformed) (items : List Item) (ps qs : List PacketValue) → IsOf policy items ps → IsOf policy items qs → ps ≡ qs
  pub fault : (policy : Malformed) (items : List Item) (f g : Fault) → IsFaultOf policy items f → IsFaultOf policy items g → f ≡ g
  pub no_fault : (policy : Malformed) (items : List Item) (ps : List PacketValue) (f : Fault) → IsOf policy items ps → IsFaultOf policy items f → ⊥

pub one_signed : ListIsOne IsSignedOf IsSignedFault → (limits : Limits) → IsOne (AreSigned limits)
one_signed w limits items (Ok a) (Ok b) h k = ap Ok (w.whole (malformed_of limits) items a b h k)
one_signed w limits items (Ok a) (Err f) h k = absurd (w.no_fault (malformed_of limits) items a f h k)
one_signed w limits items (Err f) (Ok a) h k = absurd (w.no_fault (malformed_of limits) items a f k h)
one_signed w limits items (Err f) (Err g) h k = ap Err (w.fault (malformed_of limits) items f g h k)

pub one_detached : ListIsOne IsDetachedOf IsDetachedFault → (limits : Limits) → IsOne (AreDetachedSignatures limits)
one_detached w limits items (Ok a) (Ok b) h k = ap Ok (w.whole (malformed_of limits) items a b h k)
one_detached w limits items (Ok a) (Err f) h k = absurd (w.no_fault (malformed_of limits) items a f h k)
one_detached w limits items (Err f) (Ok a) h k = absurd (w.no_fault (malformed_of limits) items a f k h)
one_detached w limits items (Err f) (Err g) h k = ap Err (w.fault (malformed_of limits) items f g h k)

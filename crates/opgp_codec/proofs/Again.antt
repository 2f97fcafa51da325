-- What is written of a keyring are the octets of the blocks that it was read of.
use Rattle.std.proofs.Common.{◌≡◌, ◌∙◌, ℕ, ◌+◌, Bool, true, false, List, [], ◌∷◌, ◌++◌, map, refl, sym, ap, append_assoc, append-nil, Ok}
use Rattle.opgp_octets.specs.declared.limits.Limits.{Limits}
use Rattle.opgp_frame.specs.Frames.{spelled}
use Rattle.opgp_frame.specs.Packet.{packets_octets, spelling}
use Rattle.opgp_frame.specs.declared.packet.Placed.{Placed}
use Rattle.opgp_keyring.specs.Composition.{Item, of_packet, packets_in}
use Rattle.opgp_keyring.specs.Keyring.{KeyringValue, flat}
use Rattle.opgp_codec.specs.Keyrings.{ComposesTo, key_label}
use Rattle.opgp_codec.specs.Reading.{TextBlock, Wanted, AreFramed, AnswerOf, at_length, at_armor, at_framing, at_top, Holds, blocks_octets, is_binary}
use Rattle.opgp_codec.specs.declared.mode.Mode.{Mode}

packets_again : (ps : List Placed) (more : List Item) → packets_octets (packets_in (map of_packet ps ++ more)) ≡ spelled ps ++ packets_octets (packets_in more)
packets_again [] more = refl
packets_again (p ∷ ps) more =
    ap (λ (l : List ℕ). spelling p.packet ++ l) (packets_again ps more)
    ∙ sym (append_assoc (spelling p.packet) (spelled ps) (packets_octets (packets_in more)))

blocks_again : (limits : Limits) (wanted : Wanted) (n : ℕ) (bs : List TextBlock) (items : List Item) → AreFramed limits wanted n bs items → packets_octets (packets_in items) ≡ blocks_octets bs
blocks_again limits wanted n [] items h = ap (λ (i : List Item). packets_octets (packets_in i)) h
blocks_again limits wanted n (b ∷ bs) items (packets, more, framed, rest, is) =
    ap (λ (i : List Item). packets_octets (packets_in i)) is ∙ packets_again packets more
    ∙ ap (λ (l : List ℕ). l ++ packets_octets (packets_in more)) (sym framed.whole)
    ∙ ap (λ (l : List ℕ). b.octets ++ l) (blocks_again limits wanted (n + 1) bs more rest)

pub again : (mode : Mode) (limits : Limits) (input : List ℕ) (r : KeyringValue) → AnswerOf key_label (ComposesTo limits) mode limits input (Ok r)
    → (blocks : List TextBlock) × Holds (is_binary mode input) limits input blocks × (packets_octets (flat r) ≡ blocks_octets blocks)
again mode limits input r (at_length l is) = cc
again mode limits input r (at_armor l f k is) = cc
again mode limits input r (at_framing l blocks holds f k is) = cc
again mode limits input r (at_top l blocks holds items framed k) =
    (blocks, holds, ap packets_octets k.composes.whole ∙ blocks_again limits key_label 0 blocks items framed)

held_by : (binary : Bool) (limits : Limits) (input : List ℕ) (blocks : List TextBlock) → binary ≡ true → Holds binary limits input blocks → blocks_octets blocks ≡ input
held_by true limits input blocks e h = ap blocks_octets h ∙ append-nil input
held_by false limits input blocks e h = cc

pub again_in_binary : (mode : Mode) (limits : Limits) (input : List ℕ) (r : KeyringValue) → AnswerOf key_label (ComposesTo limits) mode limits input (Ok r)
    → is_binary mode input ≡ true → packets_octets (flat r) ≡ input
again_in_binary mode limits input r h binary = let (blocks, holds, is) = again mode limits input r h in
    is ∙ held_by (is_binary mode input) limits input blocks binary holds

-- The packets of labels and packets are those of blocks.
use Rattle.std.proofs.Common.{◌≡◌, ◌∙◌, ◌+◌, ◌++◌, ◌∷◌, [], ℕ, List, All, map, Option, None, Some, Ok, Err, refl, sym, ap, subst}
use Rattle.opgp_octets.specs.Limits.{malformed_of}
use Rattle.opgp_octets.specs.declared.fault.Fault.{Fault}
use Rattle.opgp_octets.specs.declared.limits.Limits.{Limits}
use Rattle.opgp_octets.specs.declared.malformed.Malformed.{Malformed}
use Rattle.opgp_frame.specs.declared.packet.Placed.{Placed}
use Rattle.opgp_keyring.specs.Bodies.{IsFirstBodyFault, IsSound}
use Rattle.opgp_keyring.specs.Composition.{Item, of_label, of_packet, placed_in}
use Rattle.opgp_codec.specs.declared.found.Opening.{Opening}
use Rattle.opgp_codec.specs.declared.mode.Mode.{Mode}
use Rattle.opgp_codec.specs.Found.{opened}
use Rattle.opgp_codec.specs.IncomingPackets.{packets_of}
use Rattle.opgp_codec.specs.Items.{IsRest}
use Rattle.opgp_codec.specs.Packets.{ArePackets, BlockValue, any_label, items_in}
use Rattle.opgp_codec.specs.Reading.{AnswerOf, AreFramed, TextBlock, Wanted}
use Rattle.opgp_codec.specs.SoundPackets.{AreSoFar}
use Rattle.opgp_codec.proofs.Concluding.{answer_top}
use Rattle.opgp_codec.proofs.Ends.{HasNoMoreOctets}
use Rattle.opgp_codec.proofs.Kept.{value_by}
use Rattle.opgp_codec.proofs.Labels.{placed_packets}
use Rattle.opgp_codec.proofs.SoundSoFar.{so_far_opened}

-- the blocks of an input
record Blocks (items : List Item) : Type 0 where
  pub blocks : List BlockValue
  pub whole : items_in blocks ≡ items

framed_blocks : (limits : Limits) (wanted : Wanted) (n : ℕ) (bs : List TextBlock) (items : List Item) → AreFramed limits wanted n bs items → Blocks items
framed_blocks limits wanted n [] items e = record { blocks = []; whole = sym e }
framed_blocks limits wanted n (b ∷ bs) items (packets, more, framed, rest, e) =
    let r = framed_blocks limits wanted (n + 1) bs more rest in
    record { blocks = record { number = n; fits = wanted b.label; packets = packets } ∷ r.blocks; whole = ap (λ (l : List Item). of_label n (wanted b.label) ∷ (map of_packet packets ++ l)) r.whole ∙ sym e }

packets_in_items : (blocks : List BlockValue) → placed_in (items_in blocks) ≡ packets_of blocks
packets_in_items [] = refl
packets_in_items (b ∷ bs) = placed_packets b.packets (items_in bs) ∙ ap (λ (l : List Placed). b.packets ++ l) (packets_in_items bs)

module _ (mode : Mode) (limits : Limits) (input : List ℕ) (policy : Malformed) (items : List Item) (packets : List Placed) (opening : Option Opening) (same : policy ≡ malformed_of limits) where
  -- no body has a fault
  pub packets_sound : AreSoFar policy (λ ps. ps ≡ packets) None (placed_in items) → AnswerOf any_label (IsRest items) mode limits input (Ok opening)
      → (blocks : List BlockValue) × AnswerOf any_label (ArePackets limits) mode limits input (Ok blocks) × (packets_of blocks ≡ packets)
  packets_sound h answer =
      value_by any_label (IsRest items) (ArePackets limits) (λ o blocks. packets_of blocks ≡ packets) mode limits input opening
      (λ bs all framed t.
      let b = framed_blocks limits any_label 0 bs all framed in
      let told = so_far_opened policy (λ ps. ps ≡ packets) None items opening h in
      let here : AreSoFar policy (λ ps. ps ≡ packets) None (placed_in all) = subst (λ (l : List Item). AreSoFar policy (λ ps. ps ≡ packets) None (placed_in l)) (sym t) told in
      (b.blocks, (b.whole, subst (λ (m : Malformed). All (IsSound m) (placed_in all)) same here.0), sym (packets_in_items b.blocks) ∙ ap placed_in b.whole ∙ here.1)) answer

  -- this one has the first
  pub packets_faulty : (fault : Fault) → HasNoMoreOctets → AreSoFar policy (λ ps. ps ≡ packets) (Some fault) (placed_in items) → AnswerOf any_label (IsRest items) mode limits input (Ok opening) → AnswerOf any_label (ArePackets limits) mode limits input (Err fault)
  packets_faulty fault law h answer =
      answer_top any_label (ArePackets limits) mode limits input items opening (Err fault) law
      (λ read. subst (λ (m : Malformed). IsFirstBodyFault m (placed_in (items ++ opened opening)) fault) same (so_far_opened policy (λ ps. ps ≡ packets) (Some fault) items opening h).0) answer

-- An input has some answer.
use Rattle.std.proofs.Common.{◌≡◌, ◌∙◌, ap, ℕ, ◌+◌, ◌⊎◌, Bool, true, false, List, [], ◌∷◌, ◌++◌, length, map, refl, sym, subst, inl, inr, Ok, Err}
use Rattle.std.proofs.lemmas.Bool.{cases_lt}
use Rattle.std.specs.List.{All, AllByRecursion}
use Rattle.std.proofs.lemmas.List.Elements.{All-append, All-nil, All-cons}
use Rattle.opgp_octets.specs.declared.malformed.Malformed.{Malformed}
use Rattle.opgp_octets.specs.Octets.{IsOctets}
use Rattle.opgp_octets.specs.declared.fault.Fault.{Fault}
use Rattle.opgp_octets.specs.declared.limits.Limits.{Limits}
use Rattle.opgp_octets.specs.Limits.{input_limit, malformed_of}
use Rattle.opgp_armor.specs.Rules.{line_rule}
use Rattle.opgp_armor.specs.Armored.{Block}
use Rattle.opgp_frame.specs.declared.packet.Placed.{Placed}
use Rattle.opgp_frame.specs.Frames.{StandFrom}
use Rattle.opgp_frame.specs.Packet.{PacketValue, spelling}
use Rattle.opgp_codec.specs.declared.mode.Mode.{Mode}
use Rattle.opgp_keyring.specs.Composed.{HasOctets, IsKeyringOf, IsFault}
use Rattle.opgp_keyring.specs.Bodies.{IsSound, IsFirstBodyFault}
use Rattle.opgp_keyring.specs.Composition.{Item, of_label, of_packet, placed_in}
use Rattle.opgp_keyring.specs.Detached.{IsDetachedFault, IsDetachedOf}
use Rattle.opgp_keyring.specs.Keyring.{KeyringValue}
use Rattle.opgp_keyring.specs.Signed.{IsSignedFault, IsSignedOf}
use Rattle.opgp_codec.specs.Keyrings.{ComposesTo, key_label}
use Rattle.opgp_codec.specs.Packets.{ArePackets, BlockValue, any_label, items_in}
use Rattle.opgp_codec.specs.Signatures.{AreDetachedSignatures, signature_label}
use Rattle.opgp_codec.specs.Signed.{AreSigned, message_label}
use Rattle.opgp_codec.specs.Layers.{LayersAnswer}
use Rattle.opgp_codec.specs.Reading.{TextBlock, Wanted, armored_block, block_items, is_binary, Holds, IsTextFault, AreFramed, FirstFault, Outcome, too_long, AnswerOf, at_length, at_armor, at_framing, at_top}

-- to the labels and packets of blocks that are framed within these limits, whose bodies are octets, a
-- top has some answer
abbrev pub IsSome : {A : Type 0} → Limits → Wanted → (List Item → Outcome A → Type 0) → Type 0
IsSome {A} limits wanted top = (blocks : List TextBlock) (items : List Item) → AreFramed limits wanted 0 blocks items → All HasOctets items → (a : Outcome A) × top items a

HaveOctets : List TextBlock → Type 0
HaveOctets bs = AllByRecursion (λ (b : TextBlock). IsOctets b.octets) bs

mapped_octets : (bs : List Block) → AllByRecursion (λ b. IsOctets b.octets) bs → HaveOctets (map armored_block bs)
unfolding HaveOctets
mapped_octets [] all = tt
mapped_octets (b ∷ bs) all = (all.0, mapped_octets bs all.1)

-- blocks hold octets
text_octets : LayersAnswer → (limits : Limits) (binary : Bool) (input : List ℕ) (bs : List TextBlock) → IsOctets input → Holds binary limits input bs → HaveOctets bs
text_octets w limits true input bs octets h = subst HaveOctets (sym h) (unfold HaveOctets in (octets, tt))
text_octets w limits false input bs octets h = subst HaveOctets (sym h.2) (mapped_octets h.0 (w.armor_octets (line_rule limits) input h.0 h.1))

some_text : LayersAnswer → (limits : Limits) (binary : Bool) (input : List ℕ) → IsOctets input → ((bs : List TextBlock) × Holds binary limits input bs) ⊎ ((f : Fault) × IsTextFault binary limits input f)
some_text w limits true input octets = inl (_, refl)
some_text w limits false input octets = elim (w.armor (line_rule limits) input limits.allowed.line_in.0 octets) [
  | inl h ↦ inl (map armored_block h.0, (h.0, h.1, refl))
  | inr k ↦ inr k
]

some_framed : LayersAnswer → (limits : Limits) (wanted : Wanted) (n : ℕ) (bs : List TextBlock) → HaveOctets bs → ((items : List Item) × AreFramed limits wanted n bs items) ⊎ ((f : Fault) × FirstFault limits n bs f)
unfolding HaveOctets
some_framed w limits wanted n [] octets = inl ([], refl)
some_framed w limits wanted n (b ∷ bs) octets = elim (w.frame limits n b.octets octets.0) [
  | inl h ↦ elim (some_framed w limits wanted (n + 1) bs octets.1) [
    | inl r ↦ inl (block_items n (wanted b.label) h.0 ++ r.0, (h.0, r.0, h.1, r.1, refl))
    | inr r ↦ inr (r.0, inr (h.0, h.1, r.1))
  ]
  | inr k ↦ inr (k.0, inl k.1)
]

-- packets that stand somewhere have octets
standing_octets : (limits : Limits) (block at : ℕ) (ps : List Placed) → StandFrom limits block at ps → All HasOctets (map of_packet ps)
standing_octets limits block at [] h = All-nil HasOctets
standing_octets limits block at (p ∷ ps) h = All-cons HasOctets (of_packet p) (map of_packet ps) h.0.packet.octets (standing_octets limits block (at + length (spelling p.packet)) ps h.3)

framed_octets : (limits : Limits) (wanted : Wanted) (n : ℕ) (bs : List TextBlock) (items : List Item) → AreFramed limits wanted n bs items → All HasOctets items
framed_octets limits wanted n [] items h = subst (All HasOctets) (sym h) (All-nil HasOctets)
framed_octets limits wanted n (b ∷ bs) items (packets, more, framed, rest, is) = subst (All HasOctets) (sym is)
    (All-append HasOctets (block_items n (wanted b.label) packets) more
    (All-cons HasOctets (of_label n (wanted b.label)) (map of_packet packets) tt (standing_octets limits n 0 packets framed.stand))
    (framed_octets limits wanted (n + 1) bs more rest))

-- Whatever the top, where it has some answer, so has reading.
pub some_answer : {A : Type 0} (limits : Limits) (wanted : Wanted) (top : List Item → Outcome A → Type 0) → IsSome limits wanted top → LayersAnswer → (mode : Mode) (input : List ℕ) → IsOctets input
    → (a : Outcome A) × AnswerOf wanted top mode limits input a
some_answer {A} limits wanted top some w mode input octets = elim (cases_lt (input_limit limits) (length input)) [
  | inl long ↦ (Err (too_long limits), at_length long refl)
  | inr within ↦ elim (some_text w limits (is_binary mode input) input octets) [
    | inr f ↦ (Err f.0, at_armor within f.0 f.1 refl)
    | inl bs ↦ elim (some_framed w limits wanted 0 bs.0 (text_octets w limits (is_binary mode input) input bs.0 octets bs.1)) [
      | inr f ↦ (Err f.0, at_framing within bs.0 bs.1 f.0 f.1 refl)
      | inl ps ↦ let a = some bs.0 ps.0 ps.1 (framed_octets limits wanted 0 bs.0 ps.0 ps.1) in (a.0, at_top within bs.0 bs.1 ps.0 ps.1 a.1)
    ]
  ]
]

-- ---- the tops

-- composition has some answer
pub some_ring : ((limits : Limits) (items : List Item) → All HasOctets items → ((r : KeyringValue) × IsKeyringOf limits items r) ⊎ ((f : Fault) × IsFault limits items f))
    → (limits : Limits) → IsSome limits key_label (ComposesTo limits)
some_ring law limits blocks items framed octets = elim (law limits items octets) [
  | inl r ↦ (Ok r.0, r.1)
  | inr f ↦ (Err f.0, f.1)
]

-- what the composition of signed literals promises
abbrev pub SomeSigned : Type 0
SomeSigned = (policy : Malformed) (items : List Item) → All HasOctets items → ((ps : List PacketValue) × IsSignedOf policy items ps) ⊎ ((f : Fault) × IsSignedFault policy items f)

pub some_signed : SomeSigned → (limits : Limits) → IsSome limits message_label (AreSigned limits)
some_signed law limits blocks items framed octets = elim (law (malformed_of limits) items octets) [
  | inl r ↦ (Ok r.0, r.1)
  | inr f ↦ (Err f.0, f.1)
]

-- what the composition of detached signatures promises
abbrev pub SomeDetached : Type 0
SomeDetached = (policy : Malformed) (items : List Item) → All HasOctets items → ((ps : List PacketValue) × IsDetachedOf policy items ps) ⊎ ((f : Fault) × IsDetachedFault policy items f)

pub some_detached : SomeDetached → (limits : Limits) → IsSome limits signature_label (AreDetachedSignatures limits)
some_detached law limits blocks items framed octets = elim (law (malformed_of limits) items octets) [
  | inl r ↦ (Ok r.0, r.1)
  | inr f ↦ (Err f.0, f.1)
]

-- packets that are framed stand in blocks
blocks_of : (limits : Limits) (wanted : Wanted) (n : ℕ) (bs : List TextBlock) (items : List Item) → AreFramed limits wanted n bs items → (blocks : List BlockValue) × (items_in blocks ≡ items)
blocks_of limits wanted n [] items h = ([], sym h)
blocks_of limits wanted n (b ∷ bs) items (packets, more, framed, rest, is) =
    let (blocks, whole) = blocks_of limits wanted (n + 1) bs more rest in
    (record { number = n; fits = wanted b.label; packets = packets } ∷ blocks, ap (λ (l : List Item). block_items n (wanted b.label) packets ++ l) whole ∙ sym is)

-- Bodies have a first fault or are sound, as they do in a signed literal and its faults.
sound_or_fault : SomeSigned → (policy : Malformed) (items : List Item) → All HasOctets items → All (IsSound policy) (placed_in items) ⊎ ((f : Fault) × IsFirstBodyFault policy (placed_in items) f)
sound_or_fault law policy items octets = elim (law policy items octets) [
  | inl r ↦ inl r.1.sound
  | inr f ↦ elim f.1 [
    | inl body ↦ inr (f.0, body)
    | inr order ↦ inl order.0
  ]
]

pub some_packets : SomeSigned → (limits : Limits) → IsSome limits any_label (ArePackets limits)
some_packets law limits blocks items framed octets =
    let (values, whole) = blocks_of limits any_label 0 blocks items framed in
    elim (sound_or_fault law (malformed_of limits) items octets) [
      | inl sound ↦ (Ok values, (whole, sound))
      | inr f ↦ (Err f.0, f.1)
    ]

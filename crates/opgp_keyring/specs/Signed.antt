-- Signed messages (RFC 9580, 10.3): one-pass signatures, the literal that is signed, and as many
-- signatures after it.
use Rattle.std.specs.Prelude.{◌≡◌, ℕ, ◌+◌, ◌-◌, ◌^◌, ◌<◌, min, ◌⊎◌, true, false, not, ◌==◌, List, [], ◌∷◌}
use Rattle.std.specs.Prelude.{◌++◌, All, map, replicate, length}
use Rattle.std.specs.List.{filter}
use Rattle.opgp_octets.specs.PacketType.{packet_type_number}
use Rattle.opgp_octets.specs.declared.packet_type.PacketType.TheVariants as packet
use Rattle.opgp_octets.specs.declared.fault.Fault.{Fault}
use Rattle.opgp_octets.specs.declared.malformed.Malformed.{Malformed}
use Rattle.opgp_octets.specs.declared.fault.Reason.TheVariants.{NotASignedLiteral, BlockLabel}
use Rattle.opgp_frame.specs.Packet.{PacketValue, spelling}
use Rattle.opgp_keyring.specs.Bodies.{IsSound, IsFirstBodyFault}
use Rattle.opgp_keyring.specs.Composition.{Item, of_label, of_packet, placed_in, packets_in}
use Rattle.opgp_keyring.specs.Composition.{labels_fit, fault_at}
use Rattle.opgp_keyring.specs.Keyring.{is_filler}

-- the types of packets, in order, without fillers, which may be anywhere
abbrev pub types_of : List PacketValue → List ℕ
types_of ps = filter (λ k. not (is_filler k)) (map (λ p. p.kind) ps)

-- this many one-pass signatures (5.4), and this many signatures (5.2)
abbrev pub opening_types : ℕ → List ℕ
opening_types n = replicate n (packet_type_number packet.OnePassSignature)

abbrev pub closing_types : ℕ → List ℕ
closing_types n = replicate n (packet_type_number packet.Signature)

-- with this many signatures: as many one-pass signatures, the literal (5.9), the signatures
-- themselves
abbrev pub signed_types : ℕ → List ℕ
signed_types n = opening_types n ++ packet_type_number packet.LiteralData ∷ closing_types n

-- the packets are those of a literal and at least one signature on it
pub record IsSigned (ps : List PacketValue) : Type 0 where
  pub signatures : ℕ
  pub some : 0 < signatures
  pub whole : types_of ps ≡ signed_types signatures

-- with some more packets they are
abbrev pub BeginsSigned : List PacketValue → Type 0
BeginsSigned ps = (more : List PacketValue) × IsSigned (ps ++ more)

-- ---- where the last block ends
-- the last element, or else this one
abbrev pub last_of : ℕ → List ℕ → ℕ
last_of other [] = other
last_of other (n ∷ ns) = last_of n ns

-- the numbers of the blocks
abbrev pub blocks_in : List Item → List ℕ
blocks_in [] = []
blocks_in (of_label block fits ∷ items) = block ∷ blocks_in items
blocks_in (of_packet p ∷ items) = blocks_in items

-- the end of a block after its label, and after a packet
abbrev pub end_of : Item → ℕ
end_of (of_label block fits) = 0
end_of (of_packet p) = p.pos + length (spelling p.packet)

-- the number of the last block; 0 if there is none
abbrev pub end_block : List Item → ℕ
end_block items = last_of 0 (blocks_in items)

-- the end of its last packet; 0 if there is none
abbrev pub end_pos : List Item → ℕ
end_pos items = last_of 0 (map end_of items)

-- ---- the first fault
-- after packets that begin a signed literal, this is the fault
abbrev pub IsSignedFaultAt : List PacketValue → Item → Fault → Type 0
IsSignedFaultAt ps (of_label block fits) f = (fits ≡ false) × (f ≡ fault_at BlockLabel block 0)
IsSignedFaultAt ps (of_packet p) f =
    (BeginsSigned (ps ++ p.packet ∷ []) → ⊥) × (f ≡ fault_at NotASignedLiteral p.block p.pos)

-- the first item at fault: the packets before it begin a signed literal, and the labels before it
-- are the expected ones
pub record StopsAt (items : List Item) (f : Fault) : Type 0 where
  pub before : List Item
  pub at : Item
  pub after : List Item
  pub whole : items ≡ before ++ at ∷ after
  pub begins : BeginsSigned (packets_in before)
  pub labels : labels_fit before ≡ true
  pub here : IsSignedFaultAt (packets_in before) at f

-- no item is at fault, but packets are missing: the fault is at the end of the last block
pub record EndsEarly (end : ℕ) (items : List Item) (f : Fault) : Type 0 where
  pub begins : BeginsSigned (packets_in items)
  pub labels : labels_fit items ≡ true
  pub lacks : IsSigned (packets_in items) → ⊥
  pub is : f ≡ fault_at NotASignedLiteral (end_block items) end

-- Given where the last block ends: bodies come first, and a fault in the order is reported only if
-- no body has one. The policy says what becomes of malformed signatures.
abbrev pub IsSignedFaultBy : Malformed → ℕ → List Item → Fault → Type 0
IsSignedFaultBy policy end items f =
    IsFirstBodyFault policy (placed_in items) f
    ⊎ (All (IsSound policy) (placed_in items) × (StopsAt items f ⊎ EndsEarly end items f))

abbrev pub IsSignedFault : Malformed → List Item → Fault → Type 0
IsSignedFault policy items f = IsSignedFaultBy policy (end_pos items) items f

-- the end as it is reported in 64 bits
abbrev pub told_end : List Item → ℕ
told_end items = min (end_pos items) (2 ^ 64 - 1)

-- all labels are the expected ones, no body has a fault, and the packets, all of them in order, are
-- those of the signed literal
pub record IsSignedOf (policy : Malformed) (items : List Item)
    (ps : List PacketValue) : Type 0 where
  pub labels : labels_fit items ≡ true
  pub sound : All (IsSound policy) (placed_in items)
  pub flat : ps ≡ packets_in items
  pub signed : IsSigned ps

-- the bodies of the packets of a type, in order
abbrev pub bodies_of : ℕ → List PacketValue → List (List ℕ)
bodies_of kind ps = map (λ p. p.body) (filter (λ p. p.kind == kind) ps)

abbrev pub literal_bodies : List PacketValue → List (List ℕ)
literal_bodies ps = bodies_of (packet_type_number packet.LiteralData) ps

abbrev pub signature_bodies : List PacketValue → List (List ℕ)
signature_bodies ps = bodies_of (packet_type_number packet.Signature) ps

-- Lists of packets, and why octets aren't one (RFC 9580, 4.2).
use Rattle.std.specs.Prelude.{◌≡◌, ℕ, ◌+◌, ◌≤◌, List, [], ◌∷◌, ◌++◌, length}
use Rattle.std.specs.List.{flat_map}
use Rattle.opgp_octets.specs.declared.limits.Limits.{Limits}
use Rattle.opgp_octets.specs.Limits.{body_limit, pieces_limit}
use Rattle.opgp_octets.specs.declared.fault.Fault.{Fault}
use Rattle.opgp_octets.specs.declared.fault.Layer.TheVariants.{Framing}
use Rattle.opgp_frame.specs.declared.packet.Placed.{Placed}
use Rattle.opgp_frame.specs.Form.{exponents_of}
use Rattle.opgp_frame.specs.Packet.{PacketValue, IsPacket, spelling}
use Rattle.opgp_frame.specs.PacketFault.{PacketFault}

-- it is a packet, and its body and the number of its pieces are within the limits
pub record IsAllowed (limits : Limits) (p : PacketValue) : Type 0 where
  pub packet : IsPacket p
  pub body : length p.body ≤ body_limit limits
  pub pieces : length (exponents_of p.form) ≤ pieces_limit limits

-- the encodings of packets, joined
abbrev pub spelled : List Placed → List ℕ
spelled packets = flat_map (λ p. spelling p.packet) packets

-- the packets are allowed, and each one states its block and its offset, the first one this offset
abbrev pub StandFrom : Limits → ℕ → ℕ → List Placed → Type 0
StandFrom limits block at [] = Unit {0}
StandFrom limits block at (p ∷ ps) = IsAllowed limits p.packet × (p.block ≡ block) × (p.pos ≡ at)
    × StandFrom limits block (at + length (spelling p.packet)) ps

-- the octets are these packets, one after the other
pub record Frames (limits : Limits) (block : ℕ) (octets : List ℕ) (packets : List Placed)
    : Type 0 where
  pub whole : octets ≡ spelled packets
  pub stand : StandFrom limits block 0 packets

-- the octets begin with an allowed packet
pub record BeginsPacket (limits : Limits) (octets : List ℕ) : Type 0 where
  pub packet : PacketValue
  pub more : List ℕ
  pub begins : octets ≡ spelling packet ++ more
  pub allowed : IsAllowed limits packet

-- the longest list of allowed packets whose encodings, joined, begin the octets, and what is left
pub record Longest (limits : Limits) (block : ℕ) (octets : List ℕ) (packets : List Placed)
    (rest : List ℕ) : Type 0 where
  pub whole : octets ≡ spelled packets ++ rest
  pub stand : StandFrom limits block 0 packets
  pub no_more : ¬ BeginsPacket limits rest

-- the octets aren't a list of packets: the longest list that they begin with is followed by the
-- fault
pub record IsFramingFault (limits : Limits) (block : ℕ) (octets : List ℕ) (fault : Fault)
    : Type 0 where
  pub packets : List Placed
  pub rest : List ℕ
  pub longest : Longest limits block octets packets rest
  pub why : PacketFault limits rest fault.reason fault.inner
  pub layer : fault.layer ≡ Framing
  pub in_block : fault.block ≡ block
  pub pos : fault.pos ≡ length (spelled packets)

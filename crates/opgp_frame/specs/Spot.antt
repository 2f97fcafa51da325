-- Where a packet lies that was found (RFC 9580, 4.2).
use Rattle.std.specs.Prelude.{◌≡◌, ℕ, ◌-◌, ◌≤◌, List, length, take, drop}
use Rattle.opgp_frame.specs.declared.packet.Placed.{Placed}
use Rattle.opgp_frame.specs.declared.spot.Spot.{Spot}
use Rattle.opgp_frame.specs.Packet.{IsPacket}

-- The packet has this form and type, and its body lies there in the octets.
pub record LiesIn (s : Spot) (octets : List ℕ) (p : Placed) : Type 0 where
  pub form : p.packet.form ≡ s.form
  pub kind : p.packet.kind ≡ s.kind
  pub order : s.from ≤ s.until
  pub within : s.until ≤ length octets
  pub body : p.packet.body ≡ take (s.until - s.from) (drop s.from octets)
  pub block : p.block ≡ s.block
  pub pos : p.pos ≡ s.pos
  pub packet : IsPacket p.packet

-- A packet of one piece, all of whose octets are there (RFC 9580, 4.2).
use Rattle.std.specs.Prelude.{◌≡◌, ℕ, ◌<◌, ◌≤◌, List, [], ◌++◌, length, take}
use Rattle.opgp_octets.specs.declared.limits.Limits.{Limits}
use Rattle.opgp_octets.specs.Limits.{body_limit}
use Rattle.opgp_frame.specs.declared.packet.Placed.{Placed}
use Rattle.opgp_frame.specs.declared.spot.Spot.{Spot}
use Rattle.opgp_frame.specs.Form.{exponents_of}
use Rattle.opgp_frame.specs.Packet.{PacketValue, IsPacket, spelling}
use Rattle.opgp_frame.specs.Spot.{LiesIn}
use Rattle.opgp_frame.specs.Unfinished.{IsWhole}

-- The octets begin with all of an allowed packet of one piece, and this is where it lies in them.
pub record LiesWhole (limits : Limits) (s : Spot) (o : List ℕ) : Type 0 where
  pub placed : Placed
  pub lies : LiesIn s o placed
  pub some : 0 < s.until
  pub pieces : exponents_of placed.packet.form ≡ []
  pub whole : IsWhole limits (take s.until o) placed.packet

-- The octets begin with all of a packet of one piece, whose body is within the limit.
pub record BeginInOnePiece (limits : Limits) (o : List ℕ) : Type 0 where
  pub packet : PacketValue
  pub more : List ℕ
  pub spelled : o ≡ spelling packet ++ more
  pub is : IsPacket packet
  pub pieces : exponents_of packet.form ≡ []
  pub short : length packet.body ≤ body_limit limits

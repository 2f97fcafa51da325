-- What is known of a packet of which a part has come.
use Rattle.std.specs.Prelude.{◌≡◌, ℕ, ◌+◌, ◌<◌, ◌≤◌, List, ◌∷◌, ◌++◌, length, None}
use Rattle.opgp_octets.specs.declared.limits.Limits.{Limits}
use Rattle.opgp_frame.specs.declared.length.Length.{Length}
use Rattle.opgp_frame.specs.Frames.{IsAllowed}
use Rattle.opgp_frame.specs.Header.{kind_in}
use Rattle.opgp_frame.specs.Length.{LengthFits, IsLengthUnder, length_at, length_amount}
use Rattle.opgp_frame.specs.Length.{length_octets}
use Rattle.opgp_frame.specs.Packet.{PacketValue, spelling, cut_body}
use Rattle.opgp_frame.specs.PacketFault.{header_fault, length_fault}
use Rattle.opgp_frame.specs.PiecesValue.{GoodPieces, pieces_sum}

-- a packet has begun: its first octet and the pieces so far are allowed
pub record HasBegun (limits : Limits) (header : ℕ) (exponents : List ℕ) : Type 0 where
  pub octet : header < 256
  pub read : header_fault header ≡ None
  pub pieces : GoodPieces limits header exponents

-- The octets are those of a packet up to a point in a length header.
pub record IsAtLength (limits : Limits) (header : ℕ) (seen exponents body rest : List ℕ)
    : Type 0 where
  pub begun : HasBegun limits header exponents
  pub octets : rest ≡ header ∷ cut_body exponents seen body
  pub whole : length body ≡ pieces_sum exponents
  pub unread : length_at header seen ≡ None

-- The octets are those of a packet up to a point in what a length header announces, octets `from`
-- to `until` of the body, or to its end.
pub record IsInPiece (limits : Limits) (header : ℕ) (l : Length) (from until : ℕ)
    (exponents body rest : List ℕ) : Type 0 where
  pub begun : HasBegun limits header exponents
  pub octets : rest ≡ header ∷ cut_body exponents (length_octets l) body
  pub fits : LengthFits l
  pub under : IsLengthUnder header l
  pub good : length_fault limits (kind_in header) (length exponents) (pieces_sum exponents) l ≡ None
  pub begins : from ≡ pieces_sum exponents
  pub ends : until ≡ from + length_amount l
  pub least : from ≤ length body
  pub most : length body ≤ until

-- the octets are those of an allowed packet
pub record IsWhole (limits : Limits) (rest : List ℕ) (p : PacketValue) : Type 0 where
  pub spelled : rest ≡ spelling p
  pub allowed : IsAllowed limits p

-- After the octets of a length header that were seen, these complete it to this length.
pub record EndsLength (header : ℕ) (seen octets : List ℕ) (l : Length) : Type 0 where
  pub fits : LengthFits l
  pub under : IsLengthUnder header l
  pub whole : seen ++ octets ≡ length_octets l

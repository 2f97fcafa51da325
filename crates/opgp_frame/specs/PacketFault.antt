-- Why octets don't begin with an allowed packet, and where in it (RFC 9580, 4.2): the first octet
-- is at fault, or a length header after whole pieces that are allowed.
use Rattle.std.specs.Prelude.{◌≡◌, ℕ, ◌+◌, ◌<◌, ◌⊎◌, ◌%◌, ◌&&◌, not, ◌==◌, nat_lt, nat_le, List, []}
use Rattle.std.specs.Prelude.{◌∷◌, length, Option, Some, None, if◌then◌else◌}
use Rattle.opgp_octets.specs.declared.limits.Limits.{Limits}
use Rattle.opgp_octets.specs.Limits.{body_limit, pieces_limit}
use Rattle.opgp_octets.specs.declared.fault.Reason.{Reason}
use Rattle.opgp_octets.specs.declared.fault.Reason.TheVariants as reasons
use Rattle.opgp_frame.specs.declared.length.Length.{Length}
use Rattle.opgp_octets.specs.declared.packet_type.PacketType.TheVariants as packet
use Rattle.opgp_frame.specs.Header.{is_current, is_unknown_critical, is_data_kind, kind_in, is_type}
use Rattle.opgp_frame.specs.Length.{LengthBegins, length_amount, is_partial}
use Rattle.opgp_frame.specs.Packet.{cut_body}
use Rattle.opgp_frame.specs.PiecesValue.{GoodPieces, pieces_sum}

-- why a packet can't begin with the octet, whatever follows: the first reason that is true
abbrev pub header_fault : ℕ → Option Reason
header_fault header = if nat_lt header 128 then Some reasons.NotAPacket else
    (if is_type packet.Reserved (kind_in header) then Some reasons.TypeZero else
    (if is_type packet.CompressedData (kind_in header) then Some reasons.Compressed else
    (if is_unknown_critical (kind_in header) then Some reasons.UnknownCritical else
    (if not (is_current header) && (header % 4 == 3) then Some reasons.Indeterminate else None))))

-- why a partial length may not follow that many others, in a packet of this type: the first reason
-- that is true
abbrev pub partial_fault : Limits → ℕ → ℕ → ℕ → Option Reason
partial_fault limits kind before amount =
    if not (is_data_kind kind) then Some reasons.PartialKind else
    (if (before == 0) && nat_lt amount 512 then Some reasons.FirstPartial else
    (if nat_le (pieces_limit limits) before then Some reasons.TooManyPieces else None))

abbrev pub or_else : Option Reason → Option Reason → Option Reason
or_else None other = other
or_else (Some reason) other = Some reason

-- Why a length may not follow that many partial ones, whose pieces have this many octets, in a
-- packet of this type: the first reason that is true.
abbrev pub length_fault : Limits → ℕ → ℕ → ℕ → Length → Option Reason
length_fault limits kind before sum l =
    or_else (if is_partial l then partial_fault limits kind before (length_amount l) else None)
    (if nat_lt (body_limit limits) (sum + length_amount l) then Some reasons.BodyTooLong else None)

-- The next length header is at fault, after that many partial ones, whose pieces have this many
-- octets: it is missing or incomplete, it isn't allowed there, or its piece is incomplete.
abbrev pub NextFault : Limits → ℕ → ℕ → ℕ → List ℕ → Reason → Type 0
NextFault limits header before sum o reason =
    (((l : Length) (count : ℕ) → LengthBegins header o l count → ⊥) × (reason ≡ reasons.Truncated))
    ⊎ ((l : Length) × (count : ℕ) × LengthBegins header o l count
    × ((length_fault limits (kind_in header) before sum l ≡ Some reason)
    ⊎ ((length_fault limits (kind_in header) before sum l ≡ None)
    × (length o < count + length_amount l) × (reason ≡ reasons.Truncated))))

-- pieces that are allowed, each whole and after its partial length, and then what is at fault
pub record FaultBehind (limits : Limits) (header : ℕ) (o : List ℕ) (reason : Reason) (inner : ℕ)
    : Type 0 where
  pub exponents : List ℕ
  pub body : List ℕ
  pub rest : List ℕ
  pub octets : o ≡ cut_body exponents rest body
  pub whole : length body ≡ pieces_sum exponents
  pub good : GoodPieces limits header exponents
  pub place : inner ≡ 1 + (length exponents + pieces_sum exponents)
  pub next : NextFault limits header (length exponents) (pieces_sum exponents) rest reason

-- The fault of the packet that begins the octets: its reason, and the offset in the packet of the
-- header at fault.
abbrev pub PacketFault : Limits → List ℕ → Reason → ℕ → Type 0
PacketFault limits [] reason inner = ⊥
PacketFault limits (header ∷ o) reason inner =
    ((header_fault header ≡ Some reason) × (inner ≡ 0))
    ⊎ ((header_fault header ≡ None) × FaultBehind limits header o reason inner)

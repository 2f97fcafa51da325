-- The octet that begins a packet (RFC 9580, 4.2), and packet types (RFC 9580, 5).
use Rattle.std.specs.Prelude.{ℕ, ◌-◌, ◌/◌, Bool, ◌&&◌, ◌||◌, not, ◌==◌, nat_lt, nat_le}
use Rattle.std.specs.Prelude.{if◌then◌else◌}
use Rattle.opgp_octets.specs.PacketType.{packet_type_number}
use Rattle.opgp_octets.specs.declared.packet_type.PacketType.{PacketType}
use Rattle.opgp_octets.specs.declared.packet_type.PacketType.TheVariants as packet

-- a number is the number of this type
abbrev pub is_type : PacketType → ℕ → Bool
is_type t kind = kind == packet_type_number t

-- critical types that are unknown (RFC 9580, 4.3), with the reserved ones among them
abbrev pub is_unknown_critical : ℕ → Bool
is_unknown_critical kind = (kind == 15) || (kind == 16) || (kind == 19) || (kind == 20)
    || (nat_le 22 kind && nat_le kind 39)

-- packets of the type are read: it isn't the reserved type 0, compressed data, or a critical type
-- that is unknown
abbrev pub is_read_kind : ℕ → Bool
is_read_kind kind = not (is_type packet.Reserved kind) && not (is_type packet.CompressedData kind)
    && nat_lt kind 64 && not (is_unknown_critical kind)

-- data packets, whose bodies may come in pieces (RFC 9580, 4.2.1.4): encrypted data, literal data,
-- encrypted data with integrity protection
abbrev pub is_data_kind : ℕ → Bool
is_data_kind kind =
    (is_type packet.SymmetricallyEncryptedData kind || is_type packet.LiteralData kind)
    || is_type packet.EncryptedIntegrityProtectedData kind

-- bit 6 is set: the current format
abbrev pub is_current : ℕ → Bool
is_current header = nat_le 192 header

-- the type: in bits 5 to 0 of the current format, in bits 5 to 2 of the legacy format
abbrev pub kind_in : ℕ → ℕ
kind_in header = if is_current header then header - 192 else (header - 128) / 4

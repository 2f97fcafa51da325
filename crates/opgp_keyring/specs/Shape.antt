-- How much of a signed literal has come.
use Rattle.std.specs.Prelude.{◌≡◌, ℕ, ◌+◌, ◌<◌, ◌==◌, Bool, false, List, ◌∷◌, ◌++◌}
use Rattle.opgp_octets.specs.PacketType.{packet_type_number}
use Rattle.opgp_octets.specs.declared.packet_type.PacketType.TheVariants as packet
use Rattle.opgp_frame.specs.Packet.{PacketValue}
use Rattle.opgp_keyring.specs.declared.shape.Shape.{Shape}
use Rattle.opgp_keyring.specs.declared.shape.Shape.TheVariants.{Opening, Closing}
use Rattle.opgp_keyring.specs.Signed.{types_of, opening_types, closing_types}

-- this many signatures are still to come after the literal
pub record IsClosing (left : ℕ) (ps : List PacketValue) : Type 0 where
  pub done : ℕ
  pub some : 0 < done + left
  pub whole : types_of ps
      ≡ opening_types (done + left) ++ packet_type_number packet.LiteralData ∷ closing_types done

-- the packets have come this far
abbrev pub Stands : Shape → List PacketValue → Type 0
Stands (Opening n) ps = types_of ps ≡ opening_types n
Stands (Closing left) ps = IsClosing left ps

-- how many one-pass signatures it counts
abbrev pub opened : Shape → ℕ
opened (Opening n) = n
opened (Closing left) = 0

-- nothing is missing
abbrev pub is_whole : Shape → Bool
is_whole (Opening n) = false
is_whole (Closing left) = left == 0

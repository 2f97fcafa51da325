-- The octets that come from a source, a piece after the other.
use Rattle.std.specs.Prelude.{◌≡◌, ℕ, ◌+◌, ◌-◌, ◌≤◌, ◌⊎◌, List, length, take, Option}
use Rattle.std.specs.Io.KnownBytes.{Consumes, IsAtEnd}
use Rattle.opgp_octets.specs.Limits.{input_limit}
use Rattle.opgp_octets.specs.Octets.{IsOctets}
use Rattle.opgp_octets.specs.declared.limits.Limits.{Limits}
use Rattle.opgp_codec.specs.declared.incoming_octets.IncomingOctets.{IncomingOctets}

-- the piece that was read last
abbrev pub piece_of : IncomingOctets → List ℕ
piece_of r = take r.filled r.piece.items

-- Of what the source had before, these octets have come up to where it is now.
pub record OctetsCame (limits : Limits) (before now : Option (List ℕ)) (r : IncomingOctets)
    (octets : List ℕ) : Type 0 where
  pub each : IsOctets octets
  pub taken : Consumes before now octets
  pub limit : r.limit ≡ input_limit limits
  pub count : r.count ≡ length octets

-- what a loop over pieces has left: it lessens with each
abbrev pub octets_left : IncomingOctets → ℕ
octets_left r = r.limit + 1 - r.count

-- the source has no more, or one octet past the limit has come
abbrev pub HasNoMore : IncomingOctets → Option (List ℕ) → Type 0
HasNoMore r now = ((r.count ≤ r.limit) × IsAtEnd now) ⊎ (r.count ≡ r.limit + 1)

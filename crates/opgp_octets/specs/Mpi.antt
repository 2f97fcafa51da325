-- Multiprecision integers (RFC 9580, 3.2): a count of bits in two octets, then the octets that this
-- many bits take.
use Rattle.std.specs.Prelude.{◌≡◌, ℕ, ◌+◌, ◌-◌, ◌/◌, ◌%◌, ◌^◌, ◌<◌, ◌≤◌, Bool, true, false, ◌&&◌}
use Rattle.std.specs.Prelude.{◌||◌, not, List, length, take, drop, ◌++◌, Result, Ok, Err, nat_lt}
use Rattle.std.specs.Prelude.{◌==◌, if◌then◌else◌, slice_index}
use Rattle.std.specs.Int.{w16, to_be_bytes}
use Rattle.opgp_octets.specs.declared.fault.Reason.{Reason}
use Rattle.opgp_octets.specs.declared.fault.Reason.TheVariants.{Short, MpiBits}
use Rattle.opgp_octets.specs.Octets.{IsOctets}
use Rattle.opgp_octets.specs.Reading.{◌>>=◌, number_at, or_short}

-- a multiprecision integer: its count of bits, and the octets of its value
pub record MpiValue : Type 0 where
  pub bits : ℕ
  pub octets : List ℕ

-- how many octets this many bits take
abbrev pub octets_of : ℕ → ℕ
octets_of bits = (bits + 7) / 8

-- the encoding
abbrev pub mpi_octets : MpiValue → List ℕ
mpi_octets m = to_be_bytes w16 m.bits ++ m.octets

-- what can be encoded
pub record IsMpi (m : MpiValue) : Type 0 where
  pub bits : m.bits < 2 ^ 16
  pub octets : length m.octets ≡ octets_of m.bits
  pub each : IsOctets m.octets

-- the count is that of the most significant bit that is set
abbrev pub is_strict : MpiValue → Bool
is_strict m = (m.bits == 0) || (slice_index m.octets 0 / 2 ^ ((m.bits - 1) % 8) == 1)

-- what is allowed, with strictness required or not
abbrev pub MayStand : Bool → MpiValue → Type 0
MayStand strict m = strict ≡ true → is_strict m ≡ true

-- the octets begin with the encoding of an allowed integer, which takes this many of them
pub record MpiBegins (strict : Bool) (o : List ℕ) (m : MpiValue) (count : ℕ) : Type 0 where
  pub mpi : IsMpi m
  pub stands : MayStand strict m
  pub size : count ≡ length (mpi_octets m)
  pub within : count ≤ length o
  pub spelled : take count o ≡ mpi_octets m

-- why the octets don't begin with an allowed integer
abbrev pub MpiRefused : Bool → List ℕ → Reason → Type 0
-- they don't begin with the encoding of any integer
MpiRefused strict o Short = (m : MpiValue) (rest : List ℕ) → IsMpi m → o ≡ mpi_octets m ++ rest → ⊥
-- they begin with that of an integer that isn't strict
MpiRefused strict o MpiBits =
    (m : MpiValue) × (rest : List ℕ) × IsMpi m × (o ≡ mpi_octets m ++ rest) × (strict ≡ true)
    × (is_strict m ≡ false)
MpiRefused strict o other = ⊥

abbrev pub checked : Bool → MpiValue → List ℕ → Result (MpiValue × List ℕ) Reason
checked strict m rest = if strict && not (is_strict m) then Err MpiBits else Ok (m, rest)

abbrev pub body_at : Bool → ℕ → List ℕ → Result (MpiValue × List ℕ) Reason
body_at strict bits o = if nat_lt (length o) (octets_of bits) then Err Short
    else checked strict (record { bits = bits; octets = take (octets_of bits) o })
    (drop (octets_of bits) o)

-- the integer that begins a list, and what follows, or why there is none
unfoldable pub mpi_at : Bool → List ℕ → Result (MpiValue × List ℕ) Reason
mpi_at strict o = or_short (number_at w16 o) >>= λ x. body_at strict x.0 x.1

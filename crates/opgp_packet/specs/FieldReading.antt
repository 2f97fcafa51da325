-- Reading a body's fields from left to right, with the first fault.
use Rattle.std.specs.Prelude.{ℕ, ◌-◌, ◌||◌, List, [], ◌∷◌, length, take, drop, Result, Ok, Err}
use Rattle.std.specs.Prelude.{nat_lt, ◌==◌, if◌then◌else◌}
use Rattle.std.specs.Int.{w16, w32}
use Rattle.opgp_octets.specs.declared.fault.Reason.{Reason}
use Rattle.opgp_octets.specs.declared.fault.Reason.TheVariants.{Short, KeyVersion, KeyTooLong}
use Rattle.opgp_octets.specs.declared.fault.Reason.TheVariants.{Count, Trailing, AreaShort}
use Rattle.opgp_octets.specs.declared.fault.BodyFault.{BodyFault}
use Rattle.opgp_octets.specs.Reading.{◌>>=◌, number_at, or_short}
use Rattle.opgp_octets.specs.Mpi.{mpi_at}
use Rattle.opgp_packet.specs.Fields.{Kind, version, octet, exact, four, count, mpi, sized, fixed}
use Rattle.opgp_packet.specs.Fields.{whole, never, Extent, to_end, behind_two, behind_four, Field}
use Rattle.opgp_packet.specs.Fields.{small, wide, integer, named, bare, subpackets, Grammar, done}
use Rattle.opgp_packet.specs.Fields.{field, area, fault_at}
use Rattle.opgp_packet.specs.AreaReading.{placed, area_at}

abbrev pub octet_at : List ℕ → Result (ℕ × List ℕ) Reason
octet_at [] = Err Short
octet_at (x ∷ o) = Ok (x, o)

abbrev pub some_at : ℕ → List ℕ → Result (List ℕ × List ℕ) Reason
some_at n o = if nat_lt (length o) n then Err Short else Ok (take n o, drop n o)

abbrev pub version_as : ℕ → List ℕ → Result (Field × List ℕ) Reason
version_as n o =
    if n == 4 then (if nat_lt 65534 (length o) then Err KeyTooLong else Ok (small n, o))
    else (if n == 6 then Ok (small n, o) else Err KeyVersion)

abbrev pub exact_as : Reason → ℕ → ℕ → List ℕ → Result (Field × List ℕ) Reason
exact_as reason wanted n o = if n == wanted then Ok (small n, o) else Err reason

abbrev pub count_as : ℕ → List ℕ → Result (Field × List ℕ) Reason
count_as n o = if n == length o then Ok (wide n, o) else Err Count

abbrev pub sized_as : Reason → ℕ → ℕ → ℕ → List ℕ → Result (Field × List ℕ) Reason
sized_as reason least most n o =
    if nat_lt n least || nat_lt most n then Err reason else
    (some_at n o >>= λ x. Ok (named x.0, x.1))

-- the field that begins a list and what follows it, or why there is none
unfoldable pub kind_at : Kind → List ℕ → Result (Field × List ℕ) Reason
kind_at version o = octet_at o >>= λ x. version_as x.0 x.1
kind_at octet o = octet_at o >>= λ x. Ok (small x.0, x.1)
kind_at (exact reason wanted) o = octet_at o >>= λ x. exact_as reason wanted x.0 x.1
kind_at four o = or_short (number_at w32 o) >>= λ x. Ok (wide x.0, x.1)
kind_at count o = or_short (number_at w32 o) >>= λ x. count_as x.0 x.1
kind_at (mpi strict) o = mpi_at strict o >>= λ x. Ok (integer x.0, x.1)
kind_at (sized reason least most) o = octet_at o >>= λ x. sized_as reason least most x.0 x.1
kind_at (fixed n) o = some_at n o >>= λ x. Ok (bare x.0, x.1)
kind_at whole o = Ok (bare o, [])
kind_at never o = Err Short

-- the given number of octets, as an area
abbrev pub area_as : ℕ → List ℕ → Result (List ℕ × List ℕ) Reason
area_as n o = if nat_lt (length o) n then Err AreaShort else Ok (take n o, drop n o)

-- the octets of the area that begins a list and what follows them, or why there is none
unfoldable pub extent_at : Extent → List ℕ → Result (List ℕ × List ℕ) Reason
extent_at to_end o = Ok (o, [])
extent_at behind_two o = or_short (number_at w16 o) >>= λ x. area_as x.0 x.1
extent_at behind_four o = or_short (number_at w32 o) >>= λ x. area_as x.0 x.1

-- a field of a body of this many octets
unfoldable pub step_at : ℕ → Kind → List ℕ → Result (Field × List ℕ) BodyFault
step_at total kind o = placed total (length o) (kind_at kind o)

-- an area of it
unfoldable pub area_step_at : ℕ → Extent → List ℕ → Result (Field × List ℕ) BodyFault
area_step_at total extent o =
    placed total (length o) (extent_at extent o) >>= λ x. area_at (total - length x.1) x.0
    >>= λ z. Ok (subpackets extent z, x.1)

abbrev pub read_at : ℕ → Grammar → List ℕ → Result (List Field × List ℕ) BodyFault
read_at total done o = Ok ([], o)
read_at total (field kind next) o =
    step_at total kind o >>= λ x. read_at total (next x.0) x.1 >>= λ y. Ok (x.0 ∷ y.0, y.1)
read_at total (area extent next) o =
    area_step_at total extent o >>= λ x. read_at total next x.1 >>= λ y. Ok (x.0 ∷ y.0, y.1)

-- all of the octets
abbrev pub ended : ℕ → List Field × List ℕ → Result (List Field) BodyFault
ended total x = if length x.1 == 0 then Ok x.0 else Err (fault_at total (length x.1) Trailing)

-- the fields of a body, or its first fault
unfoldable pub body_at : Grammar → List ℕ → Result (List Field) BodyFault
body_at grammar o = read_at (length o) grammar o >>= ended (length o)

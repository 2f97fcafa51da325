-- Reading from the front of a list: a value and what follows it, or why there is none.
use Rattle.std.specs.Prelude.{◌≡◌, ℕ, List, length, take, drop, Option, Some, None, Result, Ok, Err}
use Rattle.std.specs.Prelude.{nat_lt, if◌then◌else◌}
use Rattle.std.specs.Int.{Width, byte_len, from_be_bytes}
use Rattle.opgp_octets.specs.declared.fault.Reason.{Reason}
use Rattle.opgp_octets.specs.declared.fault.Reason.TheVariants.{Short}

infixl 10 ◌>>=◌
abbrev pub ◌>>=◌ : {A B E : Type 0} → Result A E → (A → Result B E) → Result B E
(Ok x) >>= f = f x
(Err e) >>= f = Err e

-- a big-endian number of this width, and what follows it
abbrev pub number_at : Width → List ℕ → Option (ℕ × List ℕ)
number_at w o =
    if nat_lt (length o) (byte_len w) then None else Some
    (from_be_bytes w (take (byte_len w) o), drop (byte_len w) o)

-- A function's result, seen by view, is that of reading.
abbrev pub Reads : {X Y E : Type 0} → (X → Y) → Result X E → Result Y E → Type 0
Reads view (Ok x) read = read ≡ Ok (view x)
Reads view (Err e) read = read ≡ Err e

-- a field whose octets are incomplete
abbrev pub or_short : {A : Type 0} → Option A → Result A Reason
or_short None = Err Short
or_short (Some x) = Ok x

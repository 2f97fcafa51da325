-- When a pull or a put fails, and what a failed write leaves.
use Rattle.std.specs.Prelude.{ℕ, ◌==◌, ◌&&◌, not, Bool, true, false, List, length, take}
use Rattle.std.specs.Prelude.{Result, Ok, Err, Option}
use Rattle.std.specs.Io.KnownBytes.{Appends}

-- a call that returns an error fails
abbrev pub pull_fails : {E : Type 0} → Result ℕ E → Bool
pull_fails (Ok n) = false
pull_fails (Err e) = true

-- an error, or a count of 0 for a piece that isn't empty
abbrev pub put_fails : {E : Type 0} → Result ℕ E → List ℕ → Bool
put_fails (Ok n) piece = (n == 0) && not (length piece == 0)
put_fails (Err e) piece = true

-- what is held grows by a prefix of the octets
abbrev pub AppendsPrefix : Option (List ℕ) → Option (List ℕ) → List ℕ → Type 0
AppendsPrefix old new octets = (n : ℕ) × Appends old new (take n octets)

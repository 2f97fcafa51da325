-- How a reader was used whose parts are handed out while its octets come.
use Rattle.std.specs.Prelude.{ℕ, ◌^◌, ◌-◌, min, Bool, true, false, List, [], ◌++◌, length}
use Rattle.opgp_octets.specs.declared.limits.Limits.{Limits}
use Rattle.opgp_codec.specs.declared.mode.Mode.{Mode}

-- the mode and the limits that it was made with, the octets that it was given, in whatever pieces,
-- and the parts that were taken from it
pub record UseOf (P : Type 0) : Type 0 where
  pub mode : Mode
  pub limits : Limits
  pub input : List ℕ
  pub taken : List P

-- it was given nothing
abbrev pub unused : {P : Type 0} → Mode → Limits → UseOf P
unused mode limits = record { mode = mode; limits = limits; input = []; taken = [] }

-- these octets more
abbrev pub given : {P : Type 0} → UseOf P → List ℕ → UseOf P
given u octets = record u { input = u.input ++ octets }

-- these parts more
abbrev pub taking : {P : Type 0} → UseOf P → List P → UseOf P
taking u parts = record u { taken = u.taken ++ parts }

-- how many parts these are, as it is shown
abbrev pub shown_count : {P : Type 0} → List P → ℕ
shown_count parts = min (length parts) (2 ^ 64 - 1)

-- one, where there is one
abbrev pub one_if : Bool → ℕ
one_if true = 1
one_if false = 0

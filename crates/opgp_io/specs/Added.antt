-- What was added to an output: part of it was written, and part waits.
use Rattle.std.specs.Prelude.{◌≡◌, ℕ, Bool, true, false, List, ◌++◌, Option, Result, MatchResult}
use Rattle.std.specs.Io.KnownBytes.{Appends}
use Rattle.opgp_io.specs.Stream.{AppendsPrefix}

-- what a sink holds, whether it has failed, and the octets that wait to be written into it
pub record State : Type 0 where
  pub held : Option (List ℕ)
  pub failed : Bool
  pub waiting : List ℕ

-- The octets were added: what waited, followed by the octets, is what was written, followed by what
-- waits now.
pub record Adds (old new : State) (octets : List ℕ) : Type 0 where
  pub front : List ℕ
  pub put : Appends old.held new.held front
  pub joined : old.waiting ++ octets ≡ front ++ new.waiting
  pub sound : new.failed ≡ false

-- The sink has failed: a prefix of what waited, followed by the octets, was written.
pub record Breaks (old new : State) (octets : List ℕ) : Type 0 where
  pub put : AppendsPrefix old.held new.held (old.waiting ++ octets)
  pub failed : new.failed ≡ true

-- The octets were added, or the sink has failed.
abbrev pub Writes : {T E : Type 0} → State → State → Result T E → List ℕ → Type 0
Writes old new result octets =
    MatchResult result (λ _. Adds old new octets) (λ _. Breaks old new octets)

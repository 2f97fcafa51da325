-- Rows of 48 octets, armored (RFC 9580, 6.2).
use Rattle.std.specs.Prelude.{◌≡◌, ℕ, ◌%◌, List, [], ◌∷◌, ◌++◌, length, Result, MatchResult}
use Rattle.opgp_armor.specs.declared.label.Label.{Label}
use Rattle.opgp_armor.specs.Text.{begin_line, end_line}
use Rattle.opgp_armor.specs.Written.{data_lines}
use Rattle.opgp_io.specs.Added.{State, Adds, Breaks}

-- the begin line and a blank line
abbrev pub opening : Label → List ℕ
opening label = begin_line label ++ 10 ∷ 10 ∷ []

-- the end line
abbrev pub closing : Label → List ℕ
closing label = end_line label ++ 10 ∷ []

-- what was added to an output, and the octets that wait for a row
pub record Rows : Type 0 where
  pub output : State
  pub row : List ℕ

-- The data lines of whole rows were added: what waited, followed by the octets, is the rows,
-- followed by what waits now.
pub record AddsRows (old new : Rows) (octets : List ℕ) : Type 0 where
  pub rows : List ℕ
  pub whole : length rows % 48 ≡ 0
  pub joined : old.row ++ octets ≡ rows ++ new.row
  pub added : Adds old.output new.output (data_lines rows)

-- The sink has failed in the data lines of whole rows, which are a prefix of what waited, followed
-- by the octets.
pub record BreaksRows (old new : Rows) (octets : List ℕ) : Type 0 where
  pub rows : List ℕ
  pub rest : List ℕ
  pub whole : length rows % 48 ≡ 0
  pub joined : old.row ++ octets ≡ rows ++ rest
  pub broken : Breaks old.output new.output (data_lines rows)

-- The octets were added, or the sink has failed.
abbrev pub WritesRows : {T E : Type 0} → Rows → Rows → Result T E → List ℕ → Type 0
WritesRows old new result octets =
    MatchResult result (λ _. AddsRows old new octets) (λ _. BreaksRows old new octets)

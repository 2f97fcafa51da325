-- The octets that the signatures of a keyring hash (RFC 9580, 5.2.4), one after the other.
use Rattle.std.specs.Prelude.{◌≡◌, ⊤, ℕ, List, [], ◌++◌, length, map, codes, Result, Ok, Err}
use Rattle.std.specs.Fmt.{decimal}
use Rattle.opgp_hash.specs.Hashed.{hashed}
use Rattle.opgp_report.specs.Asked.{Asked, asked_by}
use Rattle.opgp_report.specs.Standing.{Standing, by_number}

-- `row <n> length <n>`
abbrev pub octets_line : ℕ → ℕ → List ℕ
octets_line number size = codes "row " ++ decimal number ++ codes " length " ++ decimal size
    ++ codes "\n"

-- the octets, behind a line that says how many there are
abbrev pub octets_row : ℕ → List ℕ → List ℕ
octets_row number octets = octets_line number (length octets) ++ octets

-- those of a signature that is hashed; nothing of one that isn't
abbrev pub asked_row : ℕ → Asked → List ℕ
asked_row number (Ok question) = octets_row number (hashed question)
asked_row number (Err why) = []

-- those of all rows of a report, in order
abbrev pub octets_rows : List Asked → List ℕ
octets_rows asked = by_number asked_row 0 asked

-- ---- as certificates come
-- so many rows have come, and what has a text has that of them
pub record HasRows {D : Type 0} (has : D → List ℕ → Type 0) (rows : ℕ) (draft : D)
    (asked : List Asked) : Type 0 where
  pub text : has draft (octets_rows asked)
  pub count : rows ≡ length asked

-- a list of signatures is added to what came before, unless memory runs out
abbrev pub AddsRows : {K E : Type 0} → (K → List Asked → Type 0) → K → List Standing → Result K E
    → Type 0
AddsRows Has old list (Ok new) =
    (asked : List Asked) → Has old asked → Has new (asked ++ map asked_by list)
AddsRows Has old list (Err refusal) = ⊤

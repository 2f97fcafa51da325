-- The table of what some of a keyring's signatures hash (RFC 9580, 5.2.4): a row for each that is
-- hashed, in order, and those octets, one after the other.
use Rattle.std.specs.Prelude.{ℕ, ◌+◌, ◌-◌, nat_le, List, [], ◌∷◌, length, take, drop}
use Rattle.std.specs.Prelude.{if◌then◌else◌, Ok, Err}
use Rattle.std.specs.List.{flat_map}
use Rattle.opgp_hash.specs.Hashed.{hashed}
use Rattle.opgp_hash.specs.QuestionValue.{QuestionValue}
use Rattle.opgp_report.specs.Asked.{Asked, asked_of}
use Rattle.opgp_keyring.specs.Keyring.{KeyringValue}
use Rattle.opgp_tables.specs.declared.hashed_row.HashedRow.{HashedRow}

-- what a signature hashes, if it is hashed
abbrev pub octets_asked : Asked → List ℕ
octets_asked (Ok q) = hashed q
octets_asked (Err why) = []

abbrev pub hashed_row : ℕ → ℕ → QuestionValue → HashedRow
hashed_row number at q = record { row = number; at = at; size = length (hashed q) }

-- the rows of those that are hashed; the first of all has this number, and its octets begin here
abbrev pub rows_asked : ℕ → ℕ → List Asked → List HashedRow
rows_asked number at [] = []
rows_asked number at (Ok q ∷ list) =
    hashed_row number at q ∷ rows_asked (number + 1) (at + length (hashed q)) list
rows_asked number at (Err why ∷ list) = rows_asked (number + 1) at list

-- the longest front of them that hashes no more octets than there is room for
abbrev pub fitting : ℕ → List Asked → List Asked
fitting room [] = []
fitting room (a ∷ list) =
    if nat_le (length (octets_asked a)) room
    then a ∷ fitting (room - length (octets_asked a)) list else []

-- so many of them, from this row on, as far as there is room
abbrev pub some_of : ℕ → ℕ → ℕ → List Asked → List Asked
some_of first count room list = fitting room (take count (drop first list))

abbrev pub hashed_rows : ℕ → ℕ → ℕ → KeyringValue → List HashedRow
hashed_rows first count room r = rows_asked 0 0 (some_of first count room (asked_of r))

abbrev pub hashed_bytes : ℕ → ℕ → ℕ → KeyringValue → List ℕ
hashed_bytes first count room r = flat_map octets_asked (some_of first count room (asked_of r))

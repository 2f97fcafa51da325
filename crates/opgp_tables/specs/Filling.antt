-- Tables of a caller that are filled from a place on.
use Rattle.std.specs.Prelude.{◌≡◌, ◌≤◌, ℕ, ◌+◌, List, ◌++◌, length, take, drop}
use Rattle.opgp_tables.specs.declared.table_sizes.TableSizes.{TableSizes}

-- the list with these items from a place on, instead of as many of its own
abbrev pub put : {A : Type 0} → ℕ → List A → List A → List A
put at items list = take at list ++ (items ++ drop (at + length items) list)

-- From one place in two tables to another one these rows and octets are put; else the tables are as
-- they were.
pub record Fills {A : Type 0} (items : List A) (octets : List ℕ) (here there : TableSizes)
    (rows rows' : List A) (bytes bytes' : List ℕ) : Type 0 where
  pub rows_put : rows' ≡ put here.rows items rows
  pub bytes_put : bytes' ≡ put here.bytes octets bytes
  pub rows_there : there.rows ≡ here.rows + length items
  pub bytes_there : there.bytes ≡ here.bytes + length octets
  pub rows_here : here.rows ≤ length rows
  pub bytes_here : here.bytes ≤ length bytes

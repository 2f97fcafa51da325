-- What becomes of a table of what signatures hash that visits signatures.
use Rattle.std.specs.Prelude.{◌≡◌, ◌-◌, ⊤, ℕ, List, ◌++◌, length, map, Result, Ok, Err}
use Rattle.std.specs.List.{flat_map}
use Rattle.opgp_report.specs.Asked.{asked_by}
use Rattle.opgp_report.specs.Standing.{Standing}
use Rattle.opgp_tables.specs.declared.hashed_row.HashedRow.{HashedRow}
use Rattle.opgp_tables.specs.declared.hashed_table.HashedTable.{HashedTable}
use Rattle.opgp_tables.specs.declared.hashed_table.Halt.{Halt}
use Rattle.opgp_tables.specs.declared.hashed_table.Halt.TheVariants.{Full, Memory}
use Rattle.opgp_tables.specs.HashedRows.{octets_asked, rows_asked, some_of}

-- these are its rows and octets, and behind them those of the signatures that are asked for, as far
-- as there is room
abbrev pub AreAdded : HashedTable → List Standing → List HashedRow → List ℕ → Type 0
AreAdded t list rows bytes =
    (rows ≡ t.rows.items ++ rows_asked (t.count - t.left) (length t.bytes.items)
    (some_of t.skip t.left t.room (map asked_by list)))
    × (bytes ≡ t.bytes.items
    ++ flat_map octets_asked (some_of t.skip t.left t.room (map asked_by list)))

-- They are added, also where that ends before the last signature; unless memory runs out.
abbrev pub AddsHashed : HashedTable → List Standing → Result HashedTable Halt → Type 0
AddsHashed t list (Ok u) = AreAdded t list u.rows.items u.bytes.items
AddsHashed t list (Err (Full rows bytes)) = AreAdded t list rows.items bytes.items
AddsHashed t list (Err Memory) = ⊤

-- What a table of what signatures hash becomes by one signature more.
use Rattle.std.proofs.Common.{◌≡◌, ◌∙◌, ℕ, ◌+◌, ◌-◌, ◌<◌, Bool, true, false, List, [], ◌∷◌, ◌++◌, length, map, Result, Ok, Err, refl, sym, ap, append-nil, append_assoc, length-append, arith, zero, suc}
use Rattle.std.specs.Prelude.{take, drop, nat_le, if◌then◌else◌}
use Rattle.std.specs.List.{flat_map}
use Rattle.opgp_report.specs.Asked.{Asked, asked_by, asked_of}
use Rattle.opgp_report.specs.Standing.{Standing}
use Rattle.opgp_keyring.specs.Keyring.{KeyringValue}
use Rattle.opgp_tables.specs.declared.hashed_row.HashedRow.{HashedRow}
use Rattle.opgp_tables.specs.declared.hashed_table.HashedTable.{HashedTable}
use Rattle.opgp_tables.specs.HashedRows.{fitting, hashed_bytes, hashed_rows, octets_asked, rows_asked, some_of}
use Rattle.opgp_tables.specs.declared.hashed_table.Halt.{Halt}
use Rattle.opgp_tables.specs.declared.hashed_table.Halt.TheVariants.{Full, Memory}
use Rattle.opgp_tables.specs.HashedTable.{AddsHashed, AreAdded}

-- the first row, and those behind it
step : (n at : ℕ) (a : Asked) (rest : List Asked) → rows_asked n at (a ∷ rest) ≡ rows_asked n at (a ∷ []) ++ rows_asked (n + 1) (at + length (octets_asked a)) rest
step n at (Ok q) rest = refl
step n at (Err why) rest = ap (λ (k : ℕ). rows_asked (n + 1) k rest) (omega arith)

-- the first that is asked for, and those behind it
taken : (left : ℕ) (a : Asked) (list : List Asked) → 0 < left → take left (a ∷ list) ≡ a ∷ take (left - 1) list
taken zero a list p = absurd (omega (arith, p))
taken (suc k) a list p = ap (λ (n : ℕ). a ∷ take n list) (omega arith)

-- none is asked for behind the last
pub none_left : (skip left room : ℕ) → some_of skip left room [] ≡ []
none_left zero zero room = refl
none_left zero (suc n) room = refl
none_left (suc k) zero room = refl
none_left (suc k) (suc n) room = refl

-- one for which there is room, and those behind it
fits : (room : ℕ) (a : Asked) (list : List Asked) → nat_le (length (octets_asked a)) room ≡ true → fitting room (a ∷ list) ≡ a ∷ fitting (room - length (octets_asked a)) list
fits room a list is = ap (λ (b : Bool). if b then a ∷ fitting (room - length (octets_asked a)) list else []) is

-- one for which there is none
full : (room : ℕ) (a : Asked) (list : List Asked) → nat_le (length (octets_asked a)) room ≡ false → fitting room (a ∷ list) ≡ []
full room a list is = ap (λ (b : Bool). if b then a ∷ fitting (room - length (octets_asked a)) list else []) is

-- A table in which a signature is met that is asked for.
module _ (old : HashedTable) (a : Asked) (s : Standing) (is : asked_by s ≡ a) (first : old.skip ≡ 0) (some : 0 < old.left) where
  abbrev n : ℕ
  n = old.count - old.left

  abbrev at : ℕ
  at = length old.bytes.items

  abbrev rest : List Standing → List Asked
  rest more = take (old.left - 1) (map asked_by more)

  all : (more : List Standing) → some_of old.skip old.left old.room (map asked_by (s ∷ more)) ≡ fitting old.room (a ∷ rest more)
  all more = ap (λ (k : ℕ). fitting old.room (take old.left (drop k (asked_by s ∷ map asked_by more)))) first ∙ ap (λ (x : Asked). fitting old.room (take old.left (x ∷ map asked_by more))) is
      ∙ ap (λ (l : List Asked). fitting old.room l) (taken old.left a (map asked_by more) some)

  -- there is no room for it
  pub stopped : (more : List Standing) (rows : List HashedRow) (bytes : List ℕ) → nat_le (length (octets_asked a)) old.room ≡ false → rows ≡ old.rows.items → bytes ≡ old.bytes.items
      → AreAdded old (s ∷ more) rows bytes
  stopped more rows bytes large r b =
      let none = all more ∙ full old.room a (rest more) large in (
        r ∙ sym (ap (λ (w : List Asked). old.rows.items ++ rows_asked n at w) none ∙ append-nil old.rows.items),
        b ∙ sym (ap (λ (w : List Asked). old.bytes.items ++ flat_map octets_asked w) none ∙ append-nil old.bytes.items),
      )

  -- There is: so many are left to pass or to come, and so much room, and these are the rows and octets then.
  module _ (fit : nat_le (length (octets_asked a)) old.room ≡ true) (skip left count room : ℕ) (rows : List HashedRow) (bytes : List ℕ) (first' : skip ≡ 0) (left' : left ≡ old.left - 1)
      (count' : count ≡ old.count) (room' : room ≡ old.room - length (octets_asked a)) (rows' : rows ≡ old.rows.items ++ rows_asked n at (a ∷ [])) (bytes' : bytes ≡ old.bytes.items ++ octets_asked a) where
    abbrev w : List Standing → List Asked
    w more = fitting (old.room - length (octets_asked a)) (rest more)

    behind : (more : List Standing) → some_of skip left room (map asked_by more) ≡ w more
    behind more = ap (λ (k : ℕ). fitting room (take left (drop k (map asked_by more)))) first' ∙ ap (λ (k : ℕ). fitting room (take k (map asked_by more))) left' ∙ ap (λ (k : ℕ). fitting k (rest more)) room'

    number : count - left ≡ n + 1
    number = omega (arith, count', left', some, old.few)

    place : length bytes ≡ at + length (octets_asked a)
    place = ap (λ (o : List ℕ). length o) bytes' ∙ length-append old.bytes.items (octets_asked a)

    same_rows : (more : List Standing) → rows ++ rows_asked (count - left) (length bytes) (some_of skip left room (map asked_by more))
        ≡ old.rows.items ++ rows_asked n at (some_of old.skip old.left old.room (map asked_by (s ∷ more)))
    same_rows more =
        ap (λ (x : List Asked). rows ++ rows_asked (count - left) (length bytes) x) (behind more)
        ∙ ap (λ (k : ℕ). rows ++ rows_asked k (length bytes) (w more)) number
        ∙ ap (λ (k : ℕ). rows ++ rows_asked (n + 1) k (w more)) place
        ∙ ap (λ (r : List HashedRow). r ++ rows_asked (n + 1) (at + length (octets_asked a)) (w more)) rows'
        ∙ append_assoc old.rows.items (rows_asked n at (a ∷ [])) (rows_asked (n + 1) (at + length (octets_asked a)) (w more))
        ∙ ap (λ (r : List HashedRow). old.rows.items ++ r) (sym (step n at a (w more)))
        ∙ ap (λ (x : List Asked). old.rows.items ++ rows_asked n at x) (sym (all more ∙ fits old.room a (rest more) fit))

    same_bytes : (more : List Standing) → bytes ++ flat_map octets_asked (some_of skip left room (map asked_by more))
        ≡ old.bytes.items ++ flat_map octets_asked (some_of old.skip old.left old.room (map asked_by (s ∷ more)))
    same_bytes more =
        ap (λ (x : List Asked). bytes ++ flat_map octets_asked x) (behind more)
        ∙ ap (λ (o : List ℕ). o ++ flat_map octets_asked (w more)) bytes'
        ∙ append_assoc old.bytes.items (octets_asked a) (flat_map octets_asked (w more))
        ∙ ap (λ (x : List Asked). old.bytes.items ++ flat_map octets_asked x) (sym (all more ∙ fits old.room a (rest more) fit))

    pub added : (more : List Standing) (all_rows : List HashedRow) (all_bytes : List ℕ)
        → (all_rows ≡ rows ++ rows_asked (count - left) (length bytes) (some_of skip left room (map asked_by more)))
        × (all_bytes ≡ bytes ++ flat_map octets_asked (some_of skip left room (map asked_by more))) → AreAdded old (s ∷ more) all_rows all_bytes
    added more all_rows all_bytes h = (h.0 ∙ same_rows more, h.1 ∙ same_bytes more)

-- none is asked for any more
none_taken : (list : List Asked) → take 0 list ≡ []
none_taken [] = refl
none_taken (a ∷ list) = refl

pub closed : (old : HashedTable) (s : Standing) (more : List Standing) (rows : List HashedRow) (bytes : List ℕ) → old.left ≡ 0 → rows ≡ old.rows.items → bytes ≡ old.bytes.items → AreAdded old (s ∷ more) rows bytes
closed old s more rows bytes left r b =
    let list : List Asked = drop old.skip (map asked_by (s ∷ more)) in
    let none : fitting old.room (take old.left list) ≡ [] = ap (λ (n : ℕ). fitting old.room (take n list)) left ∙ ap (λ (l : List Asked). fitting old.room l) (none_taken list) in (
      r ∙ sym (ap (λ (w : List Asked). old.rows.items ++ rows_asked (old.count - old.left) (length old.bytes.items) w) none ∙ append-nil old.rows.items),
      b ∙ sym (ap (λ (w : List Asked). old.bytes.items ++ flat_map octets_asked w) none ∙ append-nil old.bytes.items),
    )

-- one that comes before those that are asked for is passed
dropped : (n : ℕ) (a : Asked) (list : List Asked) → 0 < n → drop (n - 1) list ≡ drop n (a ∷ list)
dropped zero a list p = absurd (omega (arith, p))
dropped (suc k) a list p = ap (λ (n : ℕ). drop n list) (omega arith)

moved : (old : HashedTable) (s : Standing) (more : List Standing) (rows : List HashedRow) (bytes : List ℕ) → 0 < old.skip
    → (rows ≡ old.rows.items ++ rows_asked (old.count - old.left) (length old.bytes.items) (some_of (old.skip - 1) old.left old.room (map asked_by more)))
    × (bytes ≡ old.bytes.items ++ flat_map octets_asked (some_of (old.skip - 1) old.left old.room (map asked_by more))) → AreAdded old (s ∷ more) rows bytes
moved old s more rows bytes some h =
    let e : drop (old.skip - 1) (map asked_by more) ≡ drop old.skip (map asked_by (s ∷ more)) = dropped old.skip (asked_by s) (map asked_by more) some in (
      h.0 ∙ ap (λ (l : List Asked). old.rows.items ++ rows_asked (old.count - old.left) (length old.bytes.items) (fitting old.room (take old.left l))) e,
      h.1 ∙ ap (λ (l : List Asked). old.bytes.items ++ flat_map octets_asked (fitting old.room (take old.left l))) e,
    )

pub passed : (old : HashedTable) (s : Standing) → 0 < old.skip → (more : List Standing) (end : Result HashedTable Halt)
    → AddsHashed (record { skip = old.skip - 1; left = old.left; count = old.count; room = old.room; rows = old.rows; bytes = old.bytes; alloc = old.alloc; few = old.few }) more end → AddsHashed old (s ∷ more) end
passed old s some more (Ok u) h = moved old s more u.rows.items u.bytes.items some h
passed old s some more (Err (Full rows bytes)) h = moved old s more rows.items bytes.items some h
passed old s some more (Err Memory) h = tt

-- It is in the table then, whatever becomes of that.
pub grown : (old new : HashedTable) (a : Asked) (s : Standing) → asked_by s ≡ a → old.skip ≡ 0 → 0 < old.left → nat_le (length (octets_asked a)) old.room ≡ true → new.skip ≡ 0 → new.left ≡ old.left - 1
    → new.count ≡ old.count → new.room ≡ old.room - length (octets_asked a) → new.rows.items ≡ old.rows.items ++ rows_asked (old.count - old.left) (length old.bytes.items) (a ∷ [])
    → new.bytes.items ≡ old.bytes.items ++ octets_asked a → (more : List Standing) (end : Result HashedTable Halt) → AddsHashed new more end → AddsHashed old (s ∷ more) end
grown old new a s is first some fit first' left' count' room' rows' bytes' more (Ok u) h =
    added old a s is first some fit new.skip new.left new.count new.room new.rows.items new.bytes.items first' left' count' room' rows' bytes' more u.rows.items u.bytes.items h
grown old new a s is first some fit first' left' count' room' rows' bytes' more (Err (Full rows bytes)) h =
    added old a s is first some fit new.skip new.left new.count new.room new.rows.items new.bytes.items first' left' count' room' rows' bytes' more rows.items bytes.items h
grown old new a s is first some fit first' left' count' room' rows' bytes' more (Err Memory) h = tt

-- what is added to an empty table, from the first signature of a keyring on
pub from_empty : (old : HashedTable) (r : KeyringValue) (first count most : ℕ) (rows : List HashedRow) (bytes : List ℕ) → old.rows.items ≡ [] → old.bytes.items ≡ [] → old.count - old.left ≡ 0
    → (rows ≡ old.rows.items ++ rows_asked (old.count - old.left) (length old.bytes.items) (some_of first count most (asked_of r)))
    × (bytes ≡ old.bytes.items ++ flat_map octets_asked (some_of first count most (asked_of r)))
    → (rows ≡ hashed_rows first count most r) × (bytes ≡ hashed_bytes first count most r)
from_empty old r first count most rows bytes no_rows no_bytes front h =
    let found = some_of first count most (asked_of r) in (
      h.0 ∙ ap (λ (l : List HashedRow). l ++ rows_asked (old.count - old.left) (length old.bytes.items) found) no_rows ∙ ap (λ (k : ℕ). rows_asked k (length old.bytes.items) found) front
          ∙ ap (λ (o : List ℕ). rows_asked 0 (length o) found) no_bytes,
      h.1 ∙ ap (λ (o : List ℕ). o ++ flat_map octets_asked found) no_bytes,
    )

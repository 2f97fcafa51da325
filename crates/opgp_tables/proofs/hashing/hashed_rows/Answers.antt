use Rattle.std.proofs.Common.{◌∙◌, ◌-◌, List, [], ◌++◌, Ok, Err, append-nil, length, sym, ap, subst, arith}
use Rattle.std.specs.List.{flat_map}
use Rattle.opgp_report.specs.Asked.{Asked}
use Rattle.opgp_report.specs.Standing.{Standing, standing_in}
use Rattle.opgp_tables.specs.declared.hashed_table.HashedTable.{HashedTable}
use Rattle.opgp_tables.specs.declared.hashed_table.Halt.TheVariants.{Full}
use Rattle.opgp_tables.specs.HashedRows.{octets_asked, rows_asked}
use Rattle.opgp_tables.specs.HashedTable.{AddsHashed}
use Rattle.opgp_tables.proofs.Collecting.{from_empty, none_left}
use Rattle.opgp_tables.proofs.hashing.hashed_rows.Goals as goal

-- the whole keyring is visited, from an empty table on
pub returns-in-Ok : goal.returns-in-Ok
returns-in-Ok c =
    let old : HashedTable = record { skip = c.args.first; left = c.args.count; count = c.args.count; room = c.args.most; rows = c.new.result; bytes = c.new-2.result; alloc = c.args.alloc; few = omega arith } in
    let new : HashedTable = c.visit.new.visitor in
    let none = none_left new.skip new.left new.room in
    let added : AddsHashed old (standing_in c.args.keyring.now) (Ok new) =
    subst (λ (list : List Standing). AddsHashed old list (Ok new)) (append-nil (standing_in c.args.keyring.now))
    (c.in-Ok.ensures [] (Ok new) (
      sym (ap (λ (w : List Asked). new.rows.items ++ rows_asked (new.count - new.left) (length new.bytes.items) w) none ∙ append-nil new.rows.items),
      sym (ap (λ (w : List Asked). new.bytes.items ++ flat_map octets_asked w) none ∙ append-nil new.bytes.items),
    )) in
    from_empty old c.args.keyring.now c.args.first c.args.count c.args.most new.rows.items new.bytes.items c.new.ensures.items c.new-2.ensures.items (omega arith) (added.0, added.1)

-- or as far as there is room
pub returns-in-Err-Full : goal.returns-in-Err-Full
returns-in-Err-Full c =
    let old : HashedTable = record { skip = c.args.first; left = c.args.count; count = c.args.count; room = c.args.most; rows = c.new.result; bytes = c.new-2.result; alloc = c.args.alloc; few = omega arith } in
    let added : AddsHashed old (standing_in c.args.keyring.now) (Err (Full c.in-Err-Full.rows c.in-Err-Full.bytes)) =
    subst (λ (list : List Standing). AddsHashed old list (Err (Full c.in-Err-Full.rows c.in-Err-Full.bytes))) (append-nil (standing_in c.args.keyring.now))
    (rw c.in-Err-Full.field-0-is at c.in-Err-Full.ensures []) in
    from_empty old c.args.keyring.now c.args.first c.args.count c.args.most c.in-Err-Full.rows.items c.in-Err-Full.bytes.items c.new.ensures.items c.new-2.ensures.items (omega arith) (added.0, added.1)

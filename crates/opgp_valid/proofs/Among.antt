-- Tests of the statements of two lists, of which one has all of the other's.
use Rattle.std.proofs.Common.{◌≡◌, List, Bool, true}
use Rattle.std.specs.List.{list_any}
use Rattle.std.proofs.lemmas.List.Folds.{Any-from_list_any, list_any-from_Any}
use Rattle.opgp_valid.specs.Laws.{IsAmong}
use Rattle.opgp_valid.specs.declared.statement.Statement.{Statement}

-- what one of the first list passes, one of the second does
pub passed_among : (p : Statement → Bool) (a b : List Statement) → IsAmong a b → list_any p a ≡ true → list_any p b ≡ true
passed_among p a b h e =
    let x = Any-from_list_any p a e in
    let y = h x.1 (x.0, x.2, x.3) in
    list_any-from_Any p b (y.0, x.1, y.1, y.2, x.4)

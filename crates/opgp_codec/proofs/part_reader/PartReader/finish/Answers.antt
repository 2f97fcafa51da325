use Rattle.std.proofs.Common.{◌++◌, ◌∷◌, ◌∙◌, [], List, ap, sym, append_assoc, append-nil}
use Rattle.opgp_keyring.specs.Composed.{PartValue}
use Rattle.opgp_keyring.specs.State.{part_of}
use Rattle.opgp_codec.specs.PartReader.{taking, waits}
use Rattle.opgp_codec.proofs.part_reader.PartReader.finish.Goals as goal

pub returns-in-Ok-None : goal.returns-in-Ok-None
returns-in-Ok-None c u used =
    let e = rw (c.in-Ok-None.is, c.in-Ok-None.field-0-is) at (c.in_ok-ended.ensures (taking u (waits c.args.self)) used.used) in
    (e.0, e.1, e.2 ∙ append-nil (u.taken ++ waits c.args.self))

pub returns-in_ok-add-in-Ok-Some : goal.returns-in_ok-add-in-Ok-Some
returns-in_ok-add-in-Ok-Some c u used =
    let e = rw (c.in-Ok-Some.is, c.in-Ok-Some.field-0-is) at (c.in_ok-ended.ensures (taking u (waits c.args.self)) used.used) in
    (e.0, e.1, e.2 ∙ append_assoc u.taken (waits c.args.self) (part_of c.in-Ok-Some.last ∷ []) ∙ ap (λ (l : List PartValue). u.taken ++ l) (sym c.in_ok-add-in-Ok-Some.ensures))

pub returns-in-Err : goal.returns-in-Err
returns-in-Err c u used = rw c.in-Err.is at (c.in_ok-ended.ensures (taking u (waits c.args.self)) used.used)

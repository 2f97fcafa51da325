use Rattle.std.proofs.Common.{◌≡◌, ◌+◌, List, [], ◌++◌, length, append-nil, arith, Ok, Err, ap, subst, sym}
use Rattle.std.proofs.lemmas.Option.{slice_get_past}
use Rattle.std.specs.Option.{option_and_then}
use Rattle.opgp_report.specs.Standing.{Standing, standing_in}
use Rattle.opgp_valid.specs.Revocation.{FindsRevocation, revocation_of}
use Rattle.opgp_valid.specs.declared.revocation.Finder.{Finder}
use Rattle.opgp_valid.proofs.revocation.revocation_at.Goals as goal

pub returns-in-Err : goal.returns-in-Err
returns-in-Err c =
    let finder : Finder = record { left = c.args.row } in
    let found = subst (λ (l : List Standing). FindsRevocation finder l (Err c.in-Err.question)) (append-nil (standing_in c.args.keyring.now)) (c.in-Err.ensures []) in
    found.1

pub returns-in-Ok : goal.returns-in-Ok
returns-in-Ok c =
    let list : List Standing = standing_in c.args.keyring.now in
    let left : c.args.row ≡ length (list ++ []) + c.visit.new.visitor.left = c.in-Ok.ensures [] (Ok c.visit.new.visitor) (omega arith) in
    sym (ap (option_and_then revocation_of) (slice_get_past list c.args.row (omega (arith, left, ap (λ (l : List Standing). length l) (append-nil list)))))

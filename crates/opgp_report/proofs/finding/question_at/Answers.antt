use Rattle.std.proofs.Common.{◌≡◌, ◌+◌, List, [], ◌++◌, map, length, append-nil, arith, Ok, Err, ap, subst, sym}
use Rattle.std.proofs.lemmas.List.{length-map}
use Rattle.std.proofs.lemmas.Option.{slice_get_past}
use Rattle.opgp_report.specs.Asked.{Finds, asked_by, question_in}
use Rattle.opgp_report.specs.Standing.{Standing, standing_in}
use Rattle.opgp_report.specs.declared.finding.Finder.{Finder}
use Rattle.opgp_report.proofs.finding.question_at.Goals as goal

pub returns-in-Err : goal.returns-in-Err
returns-in-Err c =
    let finder : Finder = record { left = c.args.row } in
    let found = subst (λ (l : List Standing). Finds finder l (Err c.in-Err.question)) (append-nil (standing_in c.args.keyring.now)) (c.in-Err.ensures []) in
    found.1

pub returns-in-Ok : goal.returns-in-Ok
returns-in-Ok c =
    let list : List Standing = standing_in c.args.keyring.now in
    let left : c.args.row ≡ length (list ++ []) + c.visit.new.visitor.left = c.in-Ok.ensures [] (Ok c.visit.new.visitor) (omega arith) in
    sym (ap question_in (slice_get_past (map asked_by list) c.args.row (omega (arith, left, length-map list asked_by, ap (λ (l : List Standing). length l) (append-nil list)))))

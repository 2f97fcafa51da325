use Rattle.std.proofs.Common.{◌≡◌, ◌+◌, List, [], ◌++◌, length, append-nil, arith, Err, Ok, ap, subst}
use Rattle.opgp_report.specs.Asked.{Finds}
use Rattle.opgp_report.specs.Standing.{Standing, certificate_standing}
use Rattle.opgp_report.specs.declared.finding.Finder.{Finder}
use Rattle.opgp_report.proofs.finding.rows_left.Goals as goal

pub returns-in-Ok : goal.returns-in-Ok
returns-in-Ok c =
    let list : List Standing = certificate_standing 0 c.args.certificate.now in
    let left : c.args.row ≡ length (list ++ []) + c.visit_certificate.new.visitor.left = c.in-Ok.ensures [] (Ok c.visit_certificate.new.visitor) (omega arith) in
    omega (arith, left, ap (λ (l : List Standing). length l) (append-nil list))

pub returns-in-Err : goal.returns-in-Err
returns-in-Err c =
    let finder : Finder = record { left = c.args.row } in
    (subst (λ (l : List Standing). Finds finder l (Err c.in-Err.field-0)) (append-nil (certificate_standing 0 c.args.certificate.now)) (c.in-Err.ensures [])).0

use Rattle.std.proofs.Common.{rules, List, [], Ok, append-nil, map, sym, subst}
use Rattle.std.specs.declared.alloc.AllocError.{AllocError}
use Rattle.opgp_report.specs.Reporter.{AddsRows}
use Rattle.opgp_report.specs.Row.{row_value}
use Rattle.opgp_report.specs.Standing.{Standing, standing_in}
use Rattle.opgp_report.proofs.checking.check.Goals as goal

pub returns : goal.returns
returns g c =
    let added : AddsRows {E = AllocError} g.V.Verifier.says c.new-reporter.result (standing_in c.args.keyring.now) (Ok c.visit.new.visitor) =
    subst (λ (l : List Standing). AddsRows {E = AllocError} g.V.Verifier.says c.new-reporter.result l (Ok c.visit.new.visitor)) (append-nil (standing_in c.args.keyring.now))
    (c.in_ok-visit.ensures [] (Ok c.visit.new.visitor) (sym (append-nil (map row_value c.visit.new.visitor.rows.items)))) in
    search rules

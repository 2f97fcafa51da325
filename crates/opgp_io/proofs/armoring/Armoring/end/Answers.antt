use Rattle.std.proofs.Common.{ℕ, List, [], ◌++◌, ◌∷◌, refl, ap, sym}
use Rattle.opgp_armor.specs.Written.{data_lines}
use Rattle.opgp_io.specs.Armoring.{row_of}
use Rattle.opgp_io.proofs.Extended.{extends_stop, extends_then}
use Rattle.opgp_io.proofs.Rows.{armor_ends, told_by}
use Rattle.opgp_io.proofs.armoring.Armoring.end.Goals as goal

pub returns-in_err-add_waiting : goal.returns-in_err-add_waiting
returns-in_err-add_waiting g c =
    let p = extends_stop _ refl c.from_residual.ensures.0 c.in_err-add_waiting.ensures in
    record { same = p.same; told = told_by _ _ _ c.from_residual.result p.written; ended = armor_ends _ _ c.args.self c.from_residual.result p.written }

pub returns : goal.returns
returns g c =
    let waited : List ℕ = data_lines (row_of c.args.self) in
    let p = extends_then (ap (λ (line : List ℕ). waited ++ (line ++ 10 ∷ [])) (sym c.end_line.ensures)) c.in_ok-add_waiting.ensures c.add_line.ensures in
    record { same = p.same; told = told_by _ _ _ c.add_line.result p.written; ended = armor_ends _ _ c.args.self c.add_line.result p.written }

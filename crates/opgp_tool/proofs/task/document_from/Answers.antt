use Rattle.std.proofs.Common.{◌≡◌, rules, None}
use Rattle.clap.specs.Words.{found_of, rows_of}
use Rattle.opgp_octets.specs.declared.limits.Limits.{Limits}
use Rattle.opgp_codec.specs.declared.mode.Mode.{Mode}
use Rattle.opgp_tool.specs.Words.{DocumentWork, IsDocument}
use Rattle.opgp_tool.proofs.Reading.{always, where_none}
use Rattle.opgp_tool.proofs.task.document_from.Goals as goal

pub returns-in_err-limits-clause-none : goal.returns-in_err-limits-clause-none
returns-in_err-limits-clause-none c =
    let none : c.limits_of.result ≡ None = search rules in
    let no_work : (mode : Mode) (limits : Limits) (work : DocumentWork)
    → IsDocument c.args.name.now (rows_of (found_of c.args.matches.now)) mode limits work → ⊥ =
    λ mode limits work said. where_none _ none c.limits_of.ensures.none limits said.within in
    always _ no_work

use Rattle.std.proofs.Common.{◌≡◌, rules, None}
use Rattle.clap.specs.Words.{Text, found_of, rows_of}
use Rattle.opgp_codec.specs.declared.mode.Mode.{Mode}
use Rattle.opgp_octets.specs.declared.limits.Limits.{Limits}
use Rattle.opgp_tool.specs.Words.{IsDifference}
use Rattle.opgp_tool.proofs.Reading.{always, where_none}
use Rattle.opgp_tool.proofs.difference.difference_from.Goals as goal

pub returns-in_err-limits-in-diff-clause-none : goal.returns-in_err-limits-in-diff-clause-none
returns-in_err-limits-in-diff-clause-none c =
    let none : c.limits_of.result ≡ None = search rules in
    let no_difference : (mode : Mode) (limits : Limits) (file : Text) → IsDifference c.args.name.now (rows_of (found_of c.args.matches.now)) mode limits file → ⊥ =
    λ mode limits file said. where_none _ none c.limits_of.ensures.none limits said.within in
    always _ no_difference

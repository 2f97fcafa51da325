use Rattle.std.proofs.Common.{◌≡◌, rules, sym, None}
use Rattle.clap.specs.Words.{found_of, rows_of}
use Rattle.opgp_tool.proofs.Reading.{always, where_none, no_given_number}
use Rattle.opgp_tool.proofs.task.given_number_of.Goals as goal

pub returns-in_err-number_of-in-Some-clause-none :
    goal.returns-in_err-number_of-in-Some-clause-none
returns-in_err-number_of-in-Some-clause-none c =
    let none : c.number_of.result ≡ None = search rules in
    let no_number = where_none _ none c.number_of.ensures.none in
    always _ (no_given_number (rows_of (found_of c.args.matches.now)) _ _ no_number (sym c.in-Some.ensures))

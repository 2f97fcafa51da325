use Rattle.std.proofs.Common.{◌≡◌, rules, None, false, codes, List}
use Rattle.clap.specs.Words.{Row, found_of, first_of, rows_of}
use Rattle.opgp_tool.specs.Words.{is_given}
use Rattle.opgp_tool.proofs.Reading.{always, where_none, no_octets}
use Rattle.opgp_tool.proofs.task.octets_of.Goals as goal

pub returns-in_err-row-clause-none : goal.returns-in_err-row-clause-none
returns-in_err-row-clause-none c =
    let options : List Row = rows_of (found_of c.args.matches.now) in
    let none : c.number_of.result ≡ None = search rules in
    let not_all : is_given (first_of (codes "all") options) ≡ false = search rules in
    let no_row = where_none _ none c.number_of.ensures.none in
    always _ (no_octets options (λ row has given. no_row row has) (λ given ring lacks plain. absurd (cc (given, not_all))))

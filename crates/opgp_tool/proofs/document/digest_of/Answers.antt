use Rattle.std.proofs.Common.{◌≡◌, rules, None}
use Rattle.clap.specs.Words.{found_of, rows_of}
use Rattle.opgp_tool.proofs.Reading.{always, no_digest, where_none}
use Rattle.opgp_tool.proofs.document.digest_of.Goals as goal

pub returns-in_err-given-clause-none : goal.returns-in_err-given-clause-none
returns-in_err-given-clause-none c =
    let none : c.given_number_of.result ≡ None = search rules in
    always _ (no_digest (rows_of (found_of c.args.matches.now)) (where_none _ none c.given_number_of.ensures.none))

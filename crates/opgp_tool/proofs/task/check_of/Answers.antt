use Rattle.std.proofs.Common.{◌≡◌, rules, true, codes, List}
use Rattle.clap.specs.Words.{Row, found_of, first_of, rows_of}
use Rattle.opgp_tool.specs.Words.{is_given}
use Rattle.opgp_tool.proofs.Reading.{no_check}
use Rattle.opgp_tool.proofs.task.check_of.Goals as goal

pub returns-then-is_given-2-clause-none : goal.returns-then-is_given-2-clause-none
returns-then-is_given-2-clause-none c =
    let options : List Row = rows_of (found_of c.args.matches.now) in
    let prints : is_given (first_of (codes "fingerprints") options) ≡ true = search rules in
    let places : is_given (first_of (codes "places") options) ≡ true = search rules in
    no_check options prints places

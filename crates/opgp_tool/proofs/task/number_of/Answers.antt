use Rattle.std.proofs.Common.{◌∙◌}
use Rattle.std.specs.Str.Parse.{ParsesUnsigned, ExplainsUnsignedError, HasUnsignedDigitsIfOk}
use Rattle.clap.specs.Words.{found_of, rows_of}
use Rattle.clap.proofs.WalkLemmas.{one_text-rows}
use Rattle.opgp_tool.proofs.Reading.{number_read, no_number_read}
use Rattle.opgp_tool.proofs.task.number_of.Goals as goal

pub returns-clause-some : goal.returns-clause-some
returns-clause-some c =
    let found = found_of c.args.matches.now in
    let id = c.args.id.now in
    number_read _
    (λ bs r. ParsesUnsigned 64 10 bs r × ExplainsUnsignedError 10 bs r × HasUnsignedDigitsIfOk bs r)
    (λ t r gives. gives.0) (rows_of found) id c.get_one.result
    (λ is. c.get_one.ensures.none (one_text-rows found id ∙ is))
    (λ t is. c.get_one.ensures.value t (one_text-rows found id ∙ is))

pub returns-clause-none : goal.returns-clause-none
returns-clause-none c =
    let found = found_of c.args.matches.now in
    let id = c.args.id.now in
    no_number_read _
    (λ bs r. ParsesUnsigned 64 10 bs r × ExplainsUnsignedError 10 bs r × HasUnsignedDigitsIfOk bs r)
    (λ t r gives. gives.0) (rows_of found) id c.get_one.result
    (λ t is. c.get_one.ensures.value t (one_text-rows found id ∙ is))

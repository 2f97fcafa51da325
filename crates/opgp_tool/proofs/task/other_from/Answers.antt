use Rattle.std.proofs.Common.{◌≡◌, rules, None}
use Rattle.clap.specs.Words.{found_of, rows_of}
use Rattle.opgp_tool.proofs.Reading.{always, no_work, where_none}
use Rattle.opgp_tool.proofs.task.other_from.Goals as goal

pub returns-in_err-task_from-in-None-difference_from-clause-none : goal.returns-in_err-task_from-in-None-difference_from-clause-none
returns-in_err-task_from-in-None-difference_from-clause-none c =
    let no_document : c.document_from.result ≡ None = search rules in
    let no_states : c.states_from.result ≡ None = search rules in
    let no_difference : c.difference_from.result ≡ None = search rules in
    let no_task : c.task_from.result ≡ None = search rules in
    always _ (no_work c.args.name.now (rows_of (found_of c.args.matches.now))
    (where_none _ no_task c.task_from.ensures.none) (where_none _ no_document c.document_from.ensures.none) (where_none _ no_states c.states_from.ensures.none) (where_none _ no_difference c.difference_from.ensures.none))

use Rattle.std.proofs.Common.{◌≡◌, codes, rules}
use Rattle.clap.specs.Words.{found_of, rows_of}
use Rattle.opgp_tool.proofs.Reading.{no_split, no_write}
use Rattle.opgp_tool.proofs.task.work_from.Goals as goal

pub returns-in-None-clause-none : goal.returns-in-None-clause-none
returns-in-None-clause-none c =
    let is : c.args.name.now ≡ codes "write" = search rules in
    no_write c.args.name.now (rows_of (found_of c.args.matches.now)) is (rw c.in-None.is at c.in_ok-task-in-write.ensures.none)

pub returns-in-None-2-clause-none : goal.returns-in-None-2-clause-none
returns-in-None-2-clause-none c =
    let is : c.args.name.now ≡ codes "split" = search rules in
    no_split c.args.name.now (rows_of (found_of c.args.matches.now)) is (rw c.in-None-2.is at c.in_ok-task-in-split.ensures.none)

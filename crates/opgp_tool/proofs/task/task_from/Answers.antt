use Rattle.std.proofs.Common.{◌≡◌, rules, None}
use Rattle.clap.specs.Words.{found_of, rows_of}
use Rattle.opgp_stack.specs.declared.task.Task.{Task as InputTask}
use Rattle.opgp_tool.specs.Words.{IsTask}
use Rattle.opgp_tool.proofs.Reading.{always, where_none}
use Rattle.opgp_tool.proofs.task.task_from.Goals as goal

pub returns-in_err-limits-clause-none : goal.returns-in_err-limits-clause-none
returns-in_err-limits-clause-none c =
    let none : c.limits_of.result ≡ None = search rules in
    let no_task : (task : InputTask)
    → IsTask c.args.name.now (rows_of (found_of c.args.matches.now)) task → ⊥ =
    λ task said. where_none _ none c.limits_of.ensures.none task.limits said.limits in
    always _ no_task

use Rattle.std.proofs.Common.{◌≡◌, rules, None}
use Rattle.clap.specs.Words.{found_of, rows_of}
use Rattle.opgp_stack.specs.declared.stating.StateTask.{StateTask}
use Rattle.opgp_tool.specs.Words.{IsStatesWith}
use Rattle.opgp_tool.proofs.Reading.{always, where_none}
use Rattle.opgp_tool.proofs.states.task_of_states.Goals as goal

pub returns-in_err-limits-clause-none : goal.returns-in_err-limits-clause-none
returns-in_err-limits-clause-none c =
    let none : c.limits_of.result ≡ None = search rules in
    let no_states : (task : StateTask) → IsStatesWith (rows_of (found_of c.args.matches.now)) task → ⊥ =
    λ task said. where_none _ none c.limits_of.ensures.none task.limits said.limits in
    always _ no_states

pub returns-in_err-at-clause-none : goal.returns-in_err-at-clause-none
returns-in_err-at-clause-none c =
    let none : c.at_of.result ≡ None = search rules in
    let no_states : (task : StateTask) → IsStatesWith (rows_of (found_of c.args.matches.now)) task → ⊥ =
    λ task said. where_none _ none c.at_of.ensures.none task.at said.at in
    always _ no_states

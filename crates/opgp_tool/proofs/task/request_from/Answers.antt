use Rattle.opgp_tool.proofs.task.request_from.Goals as goal

pub returns-in-None-clause-none : goal.returns-in-None-clause-none
returns-in-None-clause-none c = rw c.in-None.is at c.in_ok-task.ensures.none

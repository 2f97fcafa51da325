use Rattle.opgp_tool.proofs.task.task_of.Goals as goal

pub returns-in-Ok-clause-said : goal.returns-in-Ok-clause-said
returns-in-Ok-clause-said g c =
    let h = c.in-Ok.ensures.said in
    (h.0, h.1, h.2, (h.3.0, h.3.1, h.3.2, h.3.3.work))

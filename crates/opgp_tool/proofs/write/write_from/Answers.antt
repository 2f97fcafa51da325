use Rattle.opgp_tool.proofs.write.write_from.Goals as goal

pub returns-in-None-clause-none : goal.returns-in-None-clause-none
returns-in-None-clause-none c = λ mode limits chosen said. c.in-None.ensures.none limits said.within

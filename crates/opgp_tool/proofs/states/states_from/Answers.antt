use Rattle.opgp_tool.proofs.states.states_from.Goals as goal

pub returns-in-None-clause-none : goal.returns-in-None-clause-none
returns-in-None-clause-none c = λ task file said. c.in-None.ensures.none task said.judged

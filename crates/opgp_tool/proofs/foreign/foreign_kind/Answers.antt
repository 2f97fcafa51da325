use Rattle.opgp_tool.proofs.foreign.foreign_kind.Goals as goal

pub kind_at-requires-clause-came : goal.kind_at-requires-clause-came
kind_at-requires-clause-came c = (c.args.mode, c.kept.result, _, c.in-Ok.ensures _)

use Rattle.opgp_stack.proofs.Bounds.{bound_ran, bound_refused}
use Rattle.opgp_stack.proofs.bounding.run_bound.Goals as goal

pub returns-in-Ok-Ring : goal.returns-in-Ok-Ring
returns-in-Ok-Ring g c =
    bound_ran g.R.Source.left g.R.Source.has_failed g.W.Sink.held g.W.Sink.has_failed c.args.reader.now c.read_keyring.new.reader c.args.writer.now c.args.task.now c.args.file.now c.write_merged_bound.new.writer c.in-Ok-Ring.keyring c.write_merged_bound.result (rw c.in-Ok-Ring.field-0-is at c.in-Ok-Ring.ensures) c.write_merged_bound.ensures

pub returns-in-Ok-Refused : goal.returns-in-Ok-Refused
returns-in-Ok-Refused g c = bound_refused g.R.Source.left g.R.Source.has_failed g.W.Sink.held g.W.Sink.has_failed c.args.reader.now c.read_keyring.new.reader c.args.writer.now c.args.task.now c.args.file.now c.in-Ok-Refused.fault (rw c.in-Ok-Refused.field-0-is at c.in-Ok-Refused.ensures)

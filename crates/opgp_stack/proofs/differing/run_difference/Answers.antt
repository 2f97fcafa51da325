use Rattle.opgp_stack.proofs.Differences.{difference_ran, difference_refused}
use Rattle.opgp_stack.proofs.differing.run_difference.Goals as goal

pub returns-in-Ok-Ring : goal.returns-in-Ok-Ring
returns-in-Ok-Ring g c =
    difference_ran g.R.Source.left g.R.Source.has_failed g.W.Sink.held g.W.Sink.has_failed c.args.reader.now c.read_keyring.new.reader c.args.writer.now c.args.old.now c.args.mode c.args.limits.now c.write_difference-ended.new.writer c.in-Ok-Ring.keyring c.done.result c.write_difference-ended.result (rw c.in-Ok-Ring.field-0-is at c.in-Ok-Ring.ensures) c.done.ensures c.write_difference-ended.ensures

pub returns-in-Ok-Refused : goal.returns-in-Ok-Refused
returns-in-Ok-Refused g c = difference_refused g.R.Source.left g.R.Source.has_failed g.W.Sink.held g.W.Sink.has_failed c.args.reader.now c.read_keyring.new.reader c.args.writer.now c.args.old.now c.args.mode c.args.limits.now c.in-Ok-Refused.fault (rw c.in-Ok-Refused.field-0-is at c.in-Ok-Refused.ensures)

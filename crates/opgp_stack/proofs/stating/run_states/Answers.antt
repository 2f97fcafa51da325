use Rattle.std.specs.Option.{option_map}
use Rattle.opgp_stack.proofs.States.{states_ran, states_refused}
use Rattle.opgp_stack.proofs.stating.run_states.Goals as goal

pub returns-in-Ok-Ring : goal.returns-in-Ok-Ring
returns-in-Ok-Ring g c =
    states_ran g.R.Source.left g.R.Source.has_failed g.W.Sink.held g.W.Sink.has_failed c.args.reader.now c.read_keyring.new.reader c.args.writer.now c.args.task.now (option_map (λ f. f.now) c.args.file) c.write_merged_states.new.writer c.in-Ok-Ring.keyring c.write_merged_states.result (rw c.in-Ok-Ring.field-0-is at c.in-Ok-Ring.ensures) c.write_merged_states.ensures

pub returns-in-Ok-Refused : goal.returns-in-Ok-Refused
returns-in-Ok-Refused g c = states_refused g.R.Source.left g.R.Source.has_failed g.W.Sink.held g.W.Sink.has_failed c.args.reader.now c.read_keyring.new.reader c.args.writer.now c.args.task.now (option_map (λ f. f.now) c.args.file) c.in-Ok-Refused.fault (rw c.in-Ok-Refused.field-0-is at c.in-Ok-Refused.ensures)

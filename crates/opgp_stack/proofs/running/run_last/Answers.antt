use Rattle.opgp_stack.proofs.Runs.{unspooled}
use Rattle.opgp_stack.proofs.running.run_last.Goals as goal

pub returns : goal.returns
returns g c = unspooled g.W.Sink.held g.W.Sink.has_failed c.args.task.now c.run_and.ensures

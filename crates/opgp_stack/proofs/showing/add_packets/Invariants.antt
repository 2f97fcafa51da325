use Rattle.std.proofs.Common.{◌≡◌, take}
use Rattle.opgp_io.specs.Added.{Adds}
use Rattle.opgp_io.specs.Output.{sink_name, state_of}
use Rattle.opgp_stack.specs.Showing.{shown}
use Rattle.opgp_stack.proofs.showing.add_packets.Given as goal

-- the lines of the packets so far are added
abbrev pub invariant-loop-placed : goal.invariant-loop-placed
invariant-loop-placed g l = record {
  same : sink_name l.output ≡ sink_name l.fn.output;
  added : Adds (state_of g.W.Sink.held g.W.Sink.has_failed l.fn.output) (state_of g.W.Sink.held g.W.Sink.has_failed l.output) (shown (take l.placed-index l.packets));
}

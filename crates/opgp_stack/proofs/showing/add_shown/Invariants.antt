use Rattle.std.proofs.Common.{◌≡◌, take, map}
use Rattle.opgp_io.specs.Added.{Adds}
use Rattle.opgp_io.specs.Output.{sink_name, state_of}
use Rattle.opgp_codec.specs.Packets.{block_value}
use Rattle.opgp_stack.specs.Showing.{shown_blocks}
use Rattle.opgp_stack.proofs.showing.add_shown.Given as goal

-- the lines of the blocks so far are added
abbrev pub invariant-loop-block : goal.invariant-loop-block
invariant-loop-block g l = record {
  same : sink_name l.output ≡ sink_name l.fn.output;
  added : Adds (state_of g.W.Sink.held g.W.Sink.has_failed l.fn.output) (state_of g.W.Sink.held g.W.Sink.has_failed l.output) (shown_blocks (map block_value (take l.block-index l.blocks)));
}

use Rattle.std.proofs.Common.{◌≡◌, take}
use Rattle.std.specs.List.{flat_map}
use Rattle.opgp_io.specs.Added.{Adds}
use Rattle.opgp_io.specs.Output.{sink_name, state_of}
use Rattle.opgp_stack.specs.Differing.{changed_line}
use Rattle.opgp_stack.proofs.differing.add_changes.Given as goal

-- the lines of the packets so far are added
abbrev pub invariant-loop-packet : goal.invariant-loop-packet
invariant-loop-packet g l = record {
  same : sink_name l.output ≡ sink_name l.fn.output;
  added : Adds (state_of g.W.Sink.held g.W.Sink.has_failed l.fn.output) (state_of g.W.Sink.held g.W.Sink.has_failed l.output) (flat_map (changed_line l.word l.keyring) (take l.packet-index l.packets));
  keyring : l.named.keyring.now ≡ l.keyring;
}

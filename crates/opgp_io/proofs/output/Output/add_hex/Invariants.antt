use Rattle.std.proofs.Common.{◌≡◌, false, length}
use Rattle.hex.specs.Hex.{encode_upper}
use Rattle.opgp_io.proofs.Added.{AddsAllBut}
use Rattle.opgp_io.specs.Output.{sink_name, sink_of, state_of}
use Rattle.opgp_io.proofs.output.Output.add_hex.Given as goal

abbrev pub invariant-pieces : goal.invariant-pieces
invariant-pieces g l = record {
  same : sink_name l.self ≡ sink_name l.fn.self;
  sound : g.W.Sink.has_failed (sink_of l.self) ≡ false;
  but : AddsAllBut (state_of g.W.Sink.held g.W.Sink.has_failed l.fn.self) (state_of g.W.Sink.held g.W.Sink.has_failed l.self) (encode_upper l.rest) (encode_upper l.octets);
}

abbrev pub decreases-pieces : goal.decreases-pieces
decreases-pieces g l = length l.rest

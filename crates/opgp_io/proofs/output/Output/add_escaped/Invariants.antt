use Rattle.std.proofs.Common.{◌≡◌, false, length}
use Rattle.opgp_io.specs.Texts.{escaped}
use Rattle.opgp_io.proofs.Added.{AddsAllBut}
use Rattle.opgp_io.specs.Output.{sink_name, sink_of, state_of}
use Rattle.opgp_io.proofs.output.Output.add_escaped.Given as goal

abbrev pub invariant-runs : goal.invariant-runs
invariant-runs g l = record {
  same : sink_name l.self ≡ sink_name l.fn.self;
  sound : g.W.Sink.has_failed (sink_of l.self) ≡ false;
  but : AddsAllBut (state_of g.W.Sink.held g.W.Sink.has_failed l.fn.self) (state_of g.W.Sink.held g.W.Sink.has_failed l.self) (escaped l.rest) (escaped l.octets);
}

abbrev pub decreases-runs : goal.decreases-runs
decreases-runs g l = length l.rest

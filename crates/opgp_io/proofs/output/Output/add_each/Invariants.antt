use Rattle.std.proofs.Common.{◌≡◌, false, take}
use Rattle.opgp_io.specs.Added.{Adds}
use Rattle.opgp_io.specs.Line.{line_text}
use Rattle.opgp_io.specs.Output.{sink_name, sink_of, state_of}
use Rattle.opgp_io.proofs.output.Output.add_each.Given as goal

abbrev pub invariant-loop-word : goal.invariant-loop-word
invariant-loop-word g l = record {
  same : sink_name l.self ≡ sink_name l.fn.self;
  sound : g.W.Sink.has_failed (sink_of l.self) ≡ false;
  added : Adds (state_of g.W.Sink.held g.W.Sink.has_failed l.fn.self) (state_of g.W.Sink.held g.W.Sink.has_failed l.self) (line_text (take l.word-index l.words));
}

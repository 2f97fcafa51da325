use Rattle.std.proofs.Common.{◌≡◌, false, take}
use Rattle.std.specs.List.{flat_map}
use Rattle.opgp_io.specs.Added.{Adds}
use Rattle.opgp_io.specs.Output.{sink_name, sink_of, state_of}
use Rattle.opgp_explain.specs.Lines.{field_line}
use Rattle.opgp_explain.proofs.lines.add_fields.Given as goal

-- the lines so far are added
abbrev pub invariant-loop-field : goal.invariant-loop-field
invariant-loop-field g l = record {
  same : sink_name l.output ≡ sink_name l.fn.output;
  sound : g.W.Sink.has_failed (sink_of l.output) ≡ false;
  added : Adds (state_of g.W.Sink.held g.W.Sink.has_failed l.fn.output) (state_of g.W.Sink.held g.W.Sink.has_failed l.output) (flat_map (field_line l.fn.octets) (take l.field-index l.fields));
}

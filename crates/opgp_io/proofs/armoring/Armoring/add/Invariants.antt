use Rattle.std.proofs.Common.{◌≡◌, false, length}
use Rattle.opgp_io.specs.Armoring.{label_of, rows_of}
use Rattle.opgp_io.specs.Output.{sink_name, sink_of}
use Rattle.opgp_io.proofs.Rows.{RowsAllBut}
use Rattle.opgp_io.proofs.armoring.Armoring.add.Given as goal

abbrev pub invariant-pieces : goal.invariant-pieces
invariant-pieces g l = record {
  same : sink_name l.output ≡ sink_name l.fn.output;
  label : label_of l.self ≡ label_of l.fn.self;
  sound : g.W.Sink.has_failed (sink_of l.output) ≡ false;
  but : RowsAllBut (rows_of g.W.Sink.held g.W.Sink.has_failed l.fn.output l.fn.self) (rows_of g.W.Sink.held g.W.Sink.has_failed l.output l.self) l.rest l.octets;
}

abbrev pub decreases-pieces : goal.decreases-pieces
decreases-pieces g l = length l.rest

use Rattle.std.proofs.Common.{◌∙◌, refl, ap, sym}
use Rattle.opgp_io.proofs.Extended.{extends_same}
use Rattle.opgp_io.specs.Added.{State}
use Rattle.opgp_io.specs.Output.{state_of}
use Rattle.opgp_stack.specs.Showing.{packet_lines}
use Rattle.opgp_codec.proofs.Loops.{broken_of, more_of}
use Rattle.opgp_stack.proofs.showing.add_packets.Goals as goal

pub returns-in_err-add_packet : goal.returns-in_err-add_packet
returns-in_err-add_packet g c =
    let old : State = state_of g.W.Sink.held g.W.Sink.has_failed c.args.output.now in
    let mid : State = state_of g.W.Sink.held g.W.Sink.has_failed c.loop-placed.output in
    let new : State = state_of g.W.Sink.held g.W.Sink.has_failed c.add_packet.new.output in
    record {
      same = c.in_err-add_packet.ensures.same ∙ c.loop-placed.invariant.same;
      written = broken_of packet_lines old mid new c.from_residual.result c.args.packets.now c.loop-placed.placed-index c.placed-item.result _ c.loop-placed-test.true c.placed-item.is refl c.from_residual.ensures.0 c.loop-placed.invariant.added (extends_same (ap packet_lines (sym c.of.ensures)) c.in_err-add_packet.ensures).written;
    }

pub loop-placed-preserved : goal.loop-placed-preserved
loop-placed-preserved g c =
    let old : State = state_of g.W.Sink.held g.W.Sink.has_failed c.args.output.now in
    let mid : State = state_of g.W.Sink.held g.W.Sink.has_failed c.loop-placed.output in
    let new : State = state_of g.W.Sink.held g.W.Sink.has_failed c.add_packet.new.output in
    record {
      same = c.in_ok-add_packet.ensures.same ∙ c.loop-placed.invariant.same;
      added = more_of packet_lines old mid new c.args.packets.now c.loop-placed.placed-index
          c.placed-item.result _ c.loop-placed-test.true c.placed-item.is refl c.loop-placed.invariant.added (extends_same (ap packet_lines (sym c.of.ensures)) c.in_ok-add_packet.ensures).written;
    }

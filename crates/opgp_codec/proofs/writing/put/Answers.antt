use Rattle.opgp_io.specs.Output.{sink_of, state_of, waiting_in}
use Rattle.opgp_codec.proofs.Put.{put_all}
use Rattle.opgp_codec.proofs.writing.put.Goals as goal

pub returns-clause-put : goal.returns-clause-put
returns-clause-put g c =
    put_all g.W.Sink.held g.W.Sink.has_failed (sink_of c.args.output.now) (sink_of c.finish.new.self)
    (waiting_in c.args.output.now) (waiting_in c.add.new.output) (waiting_in c.finish.new.self) (state_of g.W.Sink.held g.W.Sink.has_failed c.add.new.output) c.finish.result (g.T.Text.octets c.args.text) c.requires.none
    c.in_ok-add.ensures.written c.finish.ensures.added.written c.finish.ensures.empty

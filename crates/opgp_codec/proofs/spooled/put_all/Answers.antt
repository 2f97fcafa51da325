use Rattle.opgp_codec.specs.Writing.{octets_text}
use Rattle.opgp_codec.proofs.Spooling.{cut_off, not_all}
use Rattle.opgp_io.specs.Output.{sink_of, waiting_in}
use Rattle.opgp_codec.proofs.spooled.put_all.Goals as goal

pub returns-in-Err-clause-put : goal.returns-in-Err-clause-put
returns-in-Err-clause-put g c = not_all g.S.Spool.tells g.W.Sink.held g.W.Sink.has_failed (sink_of c.args.output.now) (octets_text c.args.out (g.S.Spool.holds c.args.spool)) (waiting_in c.args.output.now) c.requires.none c.in-Err.error (sink_of c.add_all.new.output) (waiting_in c.add_all.new.output) c.in-Err.ensures.added

pub returns-in-Err-finish-clause-put : goal.returns-in-Err-finish-clause-put
returns-in-Err-finish-clause-put g c = cut_off g.S.Spool.tells g.W.Sink.held g.W.Sink.has_failed (sink_of c.args.output.now) (octets_text c.args.out (g.S.Spool.holds c.args.spool)) (waiting_in c.args.output.now) c.requires.none (sink_of c.add_all.new.output) (sink_of c.finish.new.self) (waiting_in c.add_all.new.output) (waiting_in c.finish.new.self) c.in-Ok.ensures.added c.in-Err-finish.ensures.added.written

use Rattle.opgp_codec.proofs.Spooling.{bare_unspooled}
use Rattle.opgp_codec.proofs.spooled.add_all.Goals as goal

pub returns-in-Binary-clause-added : goal.returns-in-Binary-clause-added
returns-in-Binary-clause-added g c = rw c.in-Binary.is (bare_unspooled g.S.Spool.tells g.W.Sink.held g.W.Sink.has_failed c.args.output.now c.add_spooled.new.output (g.S.Spool.holds c.args.spool) _ c.add_spooled.result c.requires.sound c.add_spooled.ensures.added)

use Rattle.opgp_codec.proofs.Spooling.{block_cut, block_done, block_kept, block_not_begun, block_unended}
use Rattle.opgp_codec.proofs.spooled.add_spooled_block.Goals as goal

pub returns-in-Err-clause-added : goal.returns-in-Err-clause-added
returns-in-Err-clause-added g c = block_not_begun g.S.Spool.tells g.W.Sink.held g.W.Sink.has_failed c.args.output.now _ (g.S.Spool.holds c.args.spool) _ _ c.in-Err.ensures

pub returns-in-Err-add_spooled-clause-added : goal.returns-in-Err-add_spooled-clause-added
returns-in-Err-add_spooled-clause-added g c = block_cut g.S.Spool.tells g.W.Sink.held g.W.Sink.has_failed c.args.output.now _ (g.S.Spool.holds c.args.spool) _ _ _ _ c.in-Ok.ensures c.in-Err-add_spooled.error c.in-Err-add_spooled.ensures.added

pub unreachable-requires : goal.unreachable-requires
unreachable-requires g c = block_kept g.S.Spool.tells g.W.Sink.held g.W.Sink.has_failed c.args.output.now _ (g.S.Spool.holds c.args.spool) _ _ _ _ c.in-Ok.ensures c.in-Ok-add_spooled.ensures.added c.in-None.is

pub returns-in-Ok-end-clause-added : goal.returns-in-Ok-end-clause-added
returns-in-Ok-end-clause-added g c = block_done g.S.Spool.tells g.W.Sink.held g.W.Sink.has_failed c.args.output.now _ (g.S.Spool.holds c.args.spool) _ _ _ _ c.in-Ok.ensures c.in-Ok-add_spooled.ensures.added _ _ c.in-Some.is _ c.in-Ok-end.ensures

pub returns-in-Err-end-clause-added : goal.returns-in-Err-end-clause-added
returns-in-Err-end-clause-added g c = block_unended g.S.Spool.tells g.W.Sink.held g.W.Sink.has_failed c.args.output.now _ (g.S.Spool.holds c.args.spool) _ _ _ _ c.in-Ok.ensures c.in-Ok-add_spooled.ensures.added _ _ c.in-Some.is _ c.in-Err-end.ensures

use Rattle.opgp_codec.proofs.Ways.{block_broken, block_ended, block_stays, block_unbegun}
use Rattle.opgp_codec.proofs.writing.add_block.Goals as goal

pub returns-in_err-begin : goal.returns-in_err-begin
returns-in_err-begin g c = block_unbegun (g.P.Payload.octets c.args.payload) c.from_residual.result c.from_residual.ensures.0 c.in_err-begin.ensures

pub returns-in_err-add_via : goal.returns-in_err-add_via
returns-in_err-add_via g c = block_broken c.from_residual-in_err-add_via.result c.from_residual-in_err-add_via.ensures.0 c.in_ok-begin.ensures c.in_err-add_via.ensures

pub unreachable-requires : goal.unreachable-requires
unreachable-requires g c = block_stays c.in_ok-begin.ensures c.in_ok-add_via.ensures c.in-None.is

pub returns : goal.returns
returns g c = block_ended c.in_ok-begin.ensures c.in_ok-add_via.ensures c.in-Some.is c.end.ensures

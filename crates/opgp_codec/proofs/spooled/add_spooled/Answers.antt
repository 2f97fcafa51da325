use Rattle.std.proofs.Common.{rules}
use Rattle.opgp_codec.proofs.Spooling.{took_broken, took_more, turn_counted}
use Rattle.opgp_codec.proofs.spooled.add_spooled.Goals as goal

pub returns-in-Err-add-clause-added : goal.returns-in-Err-add-clause-added
returns-in-Err-add-clause-added g c = took_broken (g.S.Spool.holds c.get.new.self) c.pieces.invariant.took (λ t. (c.in-Ok.ensures.octets t).0) c.in-Err-add.ensures

pub pieces-preserved : goal.pieces-preserved
pieces-preserved g c = record {
  took = took_more c.pieces.invariant.took (λ t. (c.in-Ok.ensures.octets t).0) c.in-Ok-add.ensures;
  sound = search rules;
  few = λ t. turn_counted c.pieces._turn c.in-Ok.n c.get.new.buf (g.S.Spool.holds c.pieces.spool) (g.S.Spool.holds c.get.new.self) (g.S.Spool.holds c.args.spool) c.if-n-eq0.false c.in-Ok.ensures.bound (c.in-Ok.ensures.octets t).0 (c.pieces.invariant.few t);
}

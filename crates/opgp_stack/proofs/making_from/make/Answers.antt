use Rattle.std.proofs.Common.{◌≡◌, true, false}
use Rattle.opgp_codec.specs.Draft.{DraftHas}
use Rattle.opgp_codec.specs.Pulled.{OfAll}
use Rattle.opgp_stack.specs.Making.{IsFilledOf, IsMadeOf}
use Rattle.opgp_stack.specs.declared.making.Making.{Making}
use Rattle.opgp_stack.proofs.ReadFor.{ends_both}
use Rattle.opgp_stack.proofs.making_from.make.Goals as goal

pub make_all-requires-clause-made : goal.make_all-requires-clause-made
make_all-requires-clause-made g c = c.in_ok-making.ensures

pub returns-in-Ok : goal.returns-in-Ok
returns-in-Ok g c = c.in-Ok.ensures

pub returns-in-Err : goal.returns-in-Err
returns-in-Err g c =
    ends_both {B = Making g.row.S.Denot} (λ answer. OfAll g.R.Source.left g.R.Source.has_failed c.args.source.now c.make_all.new.source c.args.task.now.limits (λ octets. IsFilledOf (DraftHas g.S.Spool.serves g.S.Spool.tells g.S.Spool.holds g.S.Spool.has_failed) c.args.task.now c.make_all.new.making octets answer))
    (λ answer. OfAll g.R.Source.left g.R.Source.has_failed c.args.source.now c.make_all.new.source c.args.task.now.limits (λ octets. IsMadeOf (DraftHas g.S.Spool.serves g.S.Spool.tells g.S.Spool.holds g.S.Spool.has_failed) c.args.task.now octets answer)) (g.R.Source.has_failed c.make_all.new.source ≡ true) (g.R.Source.has_failed c.make_all.new.source ≡ false) (λ fault h. h) c.in-Err.fault c.in-Err.ensures

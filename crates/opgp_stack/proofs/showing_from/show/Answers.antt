use Rattle.std.proofs.Common.{◌≡◌, true, false}
use Rattle.opgp_codec.specs.declared.draft.Draft.{Draft}
use Rattle.opgp_codec.specs.Draft.{DraftHas}
use Rattle.opgp_codec.specs.Pulled.{OfAll}
use Rattle.opgp_stack.specs.Shown.{IsShownOf}
use Rattle.opgp_stack.proofs.ReadFor.{ends_both}
use Rattle.opgp_stack.proofs.showing_from.show.Goals as goal

pub show_all-requires-clause-empty : goal.show_all-requires-clause-empty
show_all-requires-clause-empty g c = c.in_ok-draft.ensures.text

pub returns-in-Ok : goal.returns-in-Ok
returns-in-Ok g c = c.in-Ok.ensures

pub returns-in-Err : goal.returns-in-Err
returns-in-Err g c =
    ends_both {B = Draft g.row.S.Denot} (λ answer. OfAll g.R.Source.left g.R.Source.has_failed c.args.source.now c.show_all.new.source c.args.task.now.limits (λ octets. IsShownOf (λ (done : Unit {0}). DraftHas g.S.Spool.serves g.S.Spool.tells g.S.Spool.holds g.S.Spool.has_failed c.show_all.new.draft) c.args.text c.args.task.now octets answer))
    (λ answer. OfAll g.R.Source.left g.R.Source.has_failed c.args.source.now c.show_all.new.source c.args.task.now.limits (λ octets. IsShownOf (DraftHas g.S.Spool.serves g.S.Spool.tells g.S.Spool.holds g.S.Spool.has_failed) c.args.text c.args.task.now octets answer)) (g.R.Source.has_failed c.show_all.new.source ≡ true) (g.R.Source.has_failed c.show_all.new.source ≡ false) (λ fault h. h) c.in-Err.fault c.in-Err.ensures

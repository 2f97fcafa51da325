use Rattle.std.proofs.Common.{◌≡◌, true, false, inr, Err}
use Rattle.opgp_codec.specs.declared.draft.Draft.{Draft}
use Rattle.opgp_codec.specs.Draft.{DraftHas}
use Rattle.opgp_codec.specs.Pulled.{OfAll}
use Rattle.opgp_codec.proofs.Pulling.{of_all}
use Rattle.opgp_stack.specs.Canonical.{IsHeldOf, IsTextOf}
use Rattle.opgp_stack.proofs.CanonicalText.{text_of_held}
use Rattle.opgp_stack.proofs.ReadFor.{ends_both}
use Rattle.opgp_stack.proofs.canonical.text_of.Goals as goal

pub add_all-requires-clause-empty : goal.add_all-requires-clause-empty
add_all-requires-clause-empty g c = c.in_ok-text.ensures

pub returns-in-Ok : goal.returns-in-Ok
returns-in-Ok g c = text_of_held _ _ _ _ _ (DraftHas g.S.Spool.serves g.S.Spool.tells g.S.Spool.holds g.S.Spool.has_failed) c.add_all.new.text c.finish.result c.finish.ensures c.in-Ok.ensures

pub returns-in-Err : goal.returns-in-Err
returns-in-Err g c =
    ends_both {B = Draft g.row.S.Denot} (λ answer. OfAll g.R.Source.left g.R.Source.has_failed c.args.source.now c.add_all.new.source c.args.limits.now (λ octets. IsHeldOf (DraftHas g.S.Spool.serves g.S.Spool.tells g.S.Spool.holds g.S.Spool.has_failed) c.args.limits.now c.add_all.new.text octets answer))
    (λ answer. OfAll g.R.Source.left g.R.Source.has_failed c.args.source.now c.add_all.new.source c.args.limits.now (λ octets. IsTextOf (DraftHas g.S.Spool.serves g.S.Spool.tells g.S.Spool.holds g.S.Spool.has_failed) c.args.limits.now octets answer)) (g.R.Source.has_failed c.add_all.new.source ≡ true) (g.R.Source.has_failed c.add_all.new.source ≡ false)
    (λ fault h. of_all g.R.Source.left g.R.Source.has_failed c.args.source.now c.add_all.new.source c.args.limits.now _ (λ octets. IsTextOf (DraftHas g.S.Spool.serves g.S.Spool.tells g.S.Spool.holds g.S.Spool.has_failed) c.args.limits.now octets (Err fault)) (λ octets k. inr k) h) c.in-Err.fault c.in-Err.ensures

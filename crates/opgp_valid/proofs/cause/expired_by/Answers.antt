use Rattle.std.proofs.Common.{◌∙◌, ℕ, None, ap}
use Rattle.std.specs.List.{find}
use Rattle.std.specs.Option.{option_map}
use Rattle.opgp_valid.specs.Cause.{cause_with, ends_it, spot_of}
use Rattle.opgp_valid.specs.declared.why.Why.TheVariants.{Expired}
use Rattle.opgp_valid.proofs.cause.expired_by.Goals as goal

pub returns : goal.returns
returns c =
    ap (cause_with Expired c.args.key c.args.is_now None c.args.end)
    (c.spot_of_end-spot.ensures
    ∙ ap (λ (n : ℕ). option_map spot_of (find (ends_it c.args.key n c.args.end c.args.at) c.args.facts.statements.now)) c.created_of-created.ensures)

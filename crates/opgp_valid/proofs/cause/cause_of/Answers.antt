use Rattle.std.proofs.Common.{◌∙◌, Some, ap}
use Rattle.std.specs.Option.{option_map}
use Rattle.opgp_valid.specs.Cause.{cause_by}
use Rattle.opgp_valid.specs.Facts.{facts_value}
use Rattle.opgp_valid.proofs.cause.cause_of.Goals as goal

pub returns-in-Some : goal.returns-in-Some
returns-in-Some c =
    ap Some c.cause_by.ensures
    ∙ ap (option_map (cause_by (facts_value c.args.facts) c.args.key c.args.made c.args.now)) c.in-Some.ensures

pub returns-in-None : goal.returns-in-None
returns-in-None c = ap (option_map (cause_by (facts_value c.args.facts) c.args.key c.args.made c.args.now)) c.in-None.ensures

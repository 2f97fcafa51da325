use Rattle.std.proofs.Common.{◌∙◌, Some, ap}
use Rattle.std.specs.List.{find}
use Rattle.opgp_valid.specs.KeyCauses.{revoked_with}
use Rattle.opgp_valid.specs.Facts.{facts_value}
use Rattle.opgp_valid.specs.Standing.{revokes}
use Rattle.opgp_valid.proofs.PartCauses.{expired_once, revoked_shown, unbound_once}
use Rattle.opgp_valid.proofs.key_causes.cause_now.Goals as goal

pub returns-in-Revoked : goal.returns-in-Revoked
returns-in-Revoked c =
    rw c.in-Revoked.is
    (c.revoked_with.ensures
    ∙ ap (revoked_with c.args.key) c.requires.revocation
    ∙ revoked_shown c.args.key (find (revokes c.args.key) c.args.facts.statements.now))

pub returns-in-Unbound : goal.returns-in-Unbound
returns-in-Unbound c =
    rw c.in-Unbound.is
    (c.unbound_now.ensures ∙ unbound_once (facts_value c.args.facts) c.args.key c.args.at (c.requires.why ∙ ap Some c.in-Unbound.is))

pub returns-in-Expired : goal.returns-in-Expired
returns-in-Expired c =
    rw c.in-Expired.is
    (c.expired_now.ensures ∙ expired_once (facts_value c.args.facts) c.args.key c.args.at (c.requires.why ∙ ap Some c.in-Expired.is))

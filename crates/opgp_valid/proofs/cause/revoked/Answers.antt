use Rattle.std.proofs.Common.{◌∙◌, ap}
use Rattle.opgp_valid.specs.Cause.{revoked_by}
use Rattle.opgp_valid.proofs.cause.revoked.Goals as goal

pub returns : goal.returns
returns c = c.revoked_by.ensures ∙ ap (revoked_by c.args.key) c.first_revoking-statement.ensures

use Rattle.std.proofs.Common.{◌≡◌, length}
use Rattle.std.specs.List.{list_any}
use Rattle.opgp_valid.specs.Revoking.{revokes_some}
use Rattle.opgp_valid.proofs.revoking.is_any_revoked.Given as goal

-- none so far does
abbrev pub invariant-statements : goal.invariant-statements
invariant-statements l = list_any revokes_some l.fn.statements ≡ list_any revokes_some l.rest

abbrev pub decreases-statements : goal.decreases-statements
decreases-statements l = length l.rest

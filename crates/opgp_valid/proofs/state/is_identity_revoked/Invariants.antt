use Rattle.std.proofs.Common.{◌≡◌, length}
use Rattle.std.specs.List.{list_any}
use Rattle.opgp_valid.specs.State.{revokes_identity}
use Rattle.opgp_valid.proofs.state.is_identity_revoked.Given as goal

-- none so far does
abbrev pub invariant-statements : goal.invariant-statements
invariant-statements l = list_any (revokes_identity l.fn.number) l.fn.statements ≡ list_any (revokes_identity l.fn.number) l.rest

abbrev pub decreases-statements : goal.decreases-statements
decreases-statements l = length l.rest

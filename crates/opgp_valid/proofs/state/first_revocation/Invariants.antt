use Rattle.std.proofs.Common.{◌≡◌, length}
use Rattle.opgp_valid.specs.State.{first_revocation}
use Rattle.opgp_valid.proofs.state.first_revocation.Given as goal

-- none so far revokes it
abbrev pub invariant-statements : goal.invariant-statements
invariant-statements l = first_revocation l.fn.key l.fn.statements ≡ first_revocation l.fn.key l.rest

abbrev pub decreases-statements : goal.decreases-statements
decreases-statements l = length l.rest

use Rattle.std.proofs.Common.{◌≡◌, length}
use Rattle.std.specs.List.{find}
use Rattle.opgp_valid.specs.Standing.{revokes}
use Rattle.opgp_valid.proofs.cause.first_revoking.Given as goal

-- none so far revokes it
abbrev pub invariant-statements : goal.invariant-statements
invariant-statements l = find (revokes l.fn.key) l.fn.statements ≡ find (revokes l.fn.key) l.rest

abbrev pub decreases-statements : goal.decreases-statements
decreases-statements l = length l.rest

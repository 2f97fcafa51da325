use Rattle.std.proofs.Common.{◌≡◌, length}
use Rattle.std.specs.List.{list_any}
use Rattle.opgp_valid.specs.Standing.{revokes}
use Rattle.opgp_valid.proofs.judging.is_revoked.Given as goal

-- none of those so far does
abbrev pub invariant-statements : goal.invariant-statements
invariant-statements l = list_any (revokes l.fn.key) l.fn.statements ≡ list_any (revokes l.fn.key) l.rest

abbrev pub decreases-statements : goal.decreases-statements
decreases-statements l = length l.rest

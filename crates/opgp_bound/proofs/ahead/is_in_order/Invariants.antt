use Rattle.std.proofs.Common.{◌≡◌, length, None}
use Rattle.opgp_valid.specs.Walk.{in_order}
use Rattle.opgp_bound.proofs.ahead.is_in_order.Given as goal

-- those so far are
abbrev pub invariant-statements : goal.invariant-statements
invariant-statements l = in_order None l.fn.statements ≡ in_order l.before l.rest

abbrev pub decreases-statements : goal.decreases-statements
decreases-statements l = length l.rest

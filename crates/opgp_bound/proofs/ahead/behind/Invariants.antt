use Rattle.std.proofs.Common.{◌≡◌, length}
use Rattle.opgp_valid.specs.Walk.{behind}
use Rattle.opgp_bound.proofs.ahead.behind.Given as goal

-- none so far is on one
abbrev pub invariant-statements : goal.invariant-statements
invariant-statements l = behind l.fn.number l.fn.statements ≡ behind l.fn.number l.rest

abbrev pub decreases-statements : goal.decreases-statements
decreases-statements l = length l.rest

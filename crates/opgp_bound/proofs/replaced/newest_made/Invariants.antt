use Rattle.std.proofs.Common.{◌≡◌, length}
use Rattle.opgp_valid.specs.Speaking.{later}
use Rattle.opgp_bound.specs.Newest.{newest_made}
use Rattle.opgp_bound.proofs.replaced.newest_made.Given as goal

-- the latest so far, and of those that are to come
abbrev pub invariant-statements : goal.invariant-statements
invariant-statements l = newest_made l.fn.at l.fn.statements l.fn.component l.fn.kind ≡ later l.found (newest_made l.fn.at l.rest l.fn.component l.fn.kind)

abbrev pub decreases-statements : goal.decreases-statements
decreases-statements l = length l.rest

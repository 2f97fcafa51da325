use Rattle.std.proofs.Common.{◌≡◌, length}
use Rattle.opgp_valid.specs.Speaking.{later, latest, speakers}
use Rattle.opgp_valid.proofs.speaking.latest.Given as goal

-- the latest so far, and of those that are to come
abbrev pub invariant-statements : goal.invariant-statements
invariant-statements l = latest (speakers l.fn.group l.fn.at l.fn.statements) ≡ later l.found (latest (speakers l.fn.group l.fn.at l.rest))

abbrev pub decreases-statements : goal.decreases-statements
decreases-statements l = length l.rest

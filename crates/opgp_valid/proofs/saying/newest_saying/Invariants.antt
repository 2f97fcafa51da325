use Rattle.std.proofs.Common.{◌≡◌, length}
use Rattle.opgp_valid.specs.Saying.{merged, saying_of}
use Rattle.opgp_valid.specs.Speaking.{made_then, newest, speakers}
use Rattle.opgp_valid.proofs.saying.newest_saying.Given as goal

-- what was said so far, and what those that are to come say
abbrev pub invariant-statements : goal.invariant-statements
invariant-statements l = saying_of l.fn.created l.fn.at (newest l.fn.group l.fn.at l.fn.statements) ≡ merged l.saying (saying_of l.fn.created l.fn.at (made_then l.last (speakers l.fn.group l.fn.at l.rest)))

abbrev pub decreases-statements : goal.decreases-statements
decreases-statements l = length l.rest

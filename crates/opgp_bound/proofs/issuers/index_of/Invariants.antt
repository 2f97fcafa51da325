use Rattle.std.proofs.Common.{◌≡◌, ◌++◌, length}
use Rattle.opgp_report.specs.KeyIndex.{prints_shown}
use Rattle.opgp_bound.proofs.issuers.index_of.Given as goal

-- those so far, and those that are to come, are all
abbrev pub invariant-prints : goal.invariant-prints
invariant-prints l = prints_shown l.index ++ l.rest ≡ l.fn.prints

abbrev pub decreases-prints : goal.decreases-prints
decreases-prints l = length l.rest

use Rattle.std.proofs.Common.{◌≡◌, ◌++◌, length, map}
use Rattle.opgp_handles.specs.Standings.{verdict_by}
use Rattle.opgp_handles.proofs.standings.verdicts_of.Given as goal

-- those so far, and those that are to come, are all
abbrev pub invariant-numbers : goal.invariant-numbers
invariant-numbers l = l.verdicts.items ++ map verdict_by l.rest ≡ map verdict_by l.fn.numbers

abbrev pub decreases-numbers : goal.decreases-numbers
decreases-numbers l = length l.rest

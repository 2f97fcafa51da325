use Rattle.std.proofs.Common.{◌≡◌, ◌++◌, length, map}
use Rattle.opgp_handles.specs.Standings.{verdict_number}
use Rattle.opgp_handles.proofs.verdict_files.numbers_of.Given as goal

-- those so far, and those that are to come, are all
abbrev pub invariant-verdicts : goal.invariant-verdicts
invariant-verdicts l = l.numbers.items ++ map verdict_number l.rest ≡ map verdict_number l.fn.verdicts

abbrev pub decreases-verdicts : goal.decreases-verdicts
decreases-verdicts l = length l.rest

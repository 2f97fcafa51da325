use Rattle.std.proofs.Common.{◌≡◌, ◌++◌, length, map}
use Rattle.opgp_handles.specs.Revocations.{revocation_row}
use Rattle.opgp_handles.proofs.revocations.rows_of.Given as goal

-- the rows so far, and those that are to come, are all
abbrev pub invariant-found : goal.invariant-found
invariant-found l = l.rows.items ++ map revocation_row l.rest ≡ map revocation_row l.fn.found

abbrev pub decreases-found : goal.decreases-found
decreases-found l = length l.rest

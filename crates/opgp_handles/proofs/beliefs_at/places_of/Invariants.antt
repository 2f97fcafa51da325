use Rattle.std.proofs.Common.{◌≡◌, ◌++◌, length, map}
use Rattle.opgp_handles.specs.Standings.{place_of}
use Rattle.opgp_handles.proofs.beliefs_at.places_of.Given as goal

-- those so far, and those that are to come, are all
abbrev pub invariant-rows : goal.invariant-rows
invariant-rows l = l.places.items ++ map place_of l.rest ≡ map place_of l.fn.rows

abbrev pub decreases-rows : goal.decreases-rows
decreases-rows l = length l.rest

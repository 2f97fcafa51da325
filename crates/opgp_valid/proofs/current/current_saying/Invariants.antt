use Rattle.std.proofs.Common.{length}
use Rattle.opgp_valid.proofs.NewestOf.{IsGathered}
use Rattle.opgp_valid.proofs.current.current_saying.Given as goal

-- those that were passed are gathered
abbrev pub invariant-steps : goal.invariant-steps
invariant-steps l = IsGathered l.fn.group l.fn.created l.fn.at l.fn.statements l.steps l.last l.newest

abbrev pub decreases-steps : goal.decreases-steps
decreases-steps l = length l.steps.rest.now

use Rattle.std.proofs.Common.{length}
use Rattle.opgp_valid.proofs.RevokedBy.{AreMarked}
use Rattle.opgp_valid.proofs.revoking.with_revocations.Given as goal

-- those that were passed are marked
abbrev pub invariant-steps : goal.invariant-steps
invariant-steps l = AreMarked l.fn.statements.items l.steps l.revoked l.found.items

abbrev pub decreases-steps : goal.decreases-steps
decreases-steps l = length l.steps.rest.now

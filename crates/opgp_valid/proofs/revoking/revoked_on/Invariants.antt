use Rattle.std.proofs.Common.{◌≡◌, length}
use Rattle.std.specs.List.{filter, fold}
use Rattle.opgp_valid.specs.Revoking.{nothing_revoked, with_one}
use Rattle.opgp_valid.specs.State.{revokes_identity}
use Rattle.opgp_valid.proofs.revoking.revoked_on.Given as goal

-- by those so far, and those that are to come
abbrev pub invariant-statements : goal.invariant-statements
invariant-statements l = fold with_one nothing_revoked (filter (revokes_identity l.fn.number) l.fn.statements) ≡ fold with_one l.revoked (filter (revokes_identity l.fn.number) l.rest)

abbrev pub decreases-statements : goal.decreases-statements
decreases-statements l = length l.rest

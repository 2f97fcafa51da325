use Rattle.std.proofs.Common.{◌≡◌, length}
use Rattle.std.specs.List.{list_any}
use Rattle.opgp_valid.specs.State.{vouches}
use Rattle.opgp_valid.proofs.state.is_vouched_for.Given as goal

-- none so far does
abbrev pub invariant-statements : goal.invariant-statements
invariant-statements l = list_any (vouches l.fn.number l.fn.at) l.fn.statements ≡ list_any (vouches l.fn.number l.fn.at) l.rest

abbrev pub decreases-statements : goal.decreases-statements
decreases-statements l = length l.rest

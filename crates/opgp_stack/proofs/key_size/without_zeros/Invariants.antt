use Rattle.std.proofs.Common.{◌≡◌, ◌≤◌, length}
use Rattle.opgp_valid.specs.Policy.{without_zeros}
use Rattle.opgp_stack.proofs.key_size.without_zeros.Given as goal

-- those so far are zeros
abbrev pub invariant-octets : goal.invariant-octets
invariant-octets l = (without_zeros l.fn.octets ≡ without_zeros l.rest) × (length l.rest ≤ length l.fn.octets)

abbrev pub decreases-octets : goal.decreases-octets
decreases-octets l = length l.rest

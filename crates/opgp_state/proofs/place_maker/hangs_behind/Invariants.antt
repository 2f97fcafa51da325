use Rattle.std.proofs.Common.{◌≡◌, ◌+◌, length}
use Rattle.opgp_keyring.specs.Grouped.{hangs_left}
use Rattle.opgp_state.proofs.place_maker.hangs_behind.Given as goal

abbrev pub invariant-hangs : goal.invariant-hangs
invariant-hangs l = l.number + length (hangs_left l.hangs) ≡ l.fn.first + length (hangs_left l.fn.hangs)

abbrev pub decreases-hangs : goal.decreases-hangs
decreases-hangs l = length (hangs_left l.hangs)

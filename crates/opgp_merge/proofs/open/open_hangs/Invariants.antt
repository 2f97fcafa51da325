use Rattle.std.proofs.Common.{◌≡◌, ◌++◌, length}
use Rattle.opgp_keyring.specs.Grouped.{hangs_left}
use Rattle.opgp_merge.proofs.open.open_hangs.Given as goal

abbrev pub invariant-hangs : goal.invariant-hangs
invariant-hangs l = l.open.items ++ hangs_left l.hangs ≡ hangs_left l.fn.hangs

abbrev pub decreases-hangs : goal.decreases-hangs
decreases-hangs l = length (hangs_left l.hangs)

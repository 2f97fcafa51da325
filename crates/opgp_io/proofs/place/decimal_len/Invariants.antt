use Rattle.std.proofs.Common.{◌≡◌, ◌+◌, length}
use Rattle.std.specs.Fmt.{decimal}
use Rattle.opgp_io.proofs.place.decimal_len.Given as goal

abbrev pub invariant-fours : goal.invariant-fours
invariant-fours l = l.count + length (decimal l.left) ≡ length (decimal l.n)

abbrev pub decreases-fours : goal.decreases-fours
decreases-fours l = l.left

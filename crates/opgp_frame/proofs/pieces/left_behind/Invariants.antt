use Rattle.std.proofs.Common.{◌≡◌, ◌+◌, drop}
use Rattle.opgp_frame.specs.PiecesValue.{pieces_sum}
use Rattle.opgp_frame.proofs.pieces.left_behind.Given as goal

-- what the pieces so far took from n
abbrev pub invariant-loop-exponent : goal.invariant-loop-exponent
invariant-loop-exponent l = l.left + pieces_sum l.exponents ≡ l.n + pieces_sum (drop l.exponent-index l.exponents)

use Rattle.std.proofs.Common.{◌≡◌, ◌+◌, ◌-◌, ◌≤◌, length, take}
use Rattle.opgp_codec.specs.Parts.{IsUsed, Use, count_of, given, left_of}
use Rattle.opgp_codec.proofs.parts.Parts.next.Given as goal

-- the octets before `at` were given, and complete no part
abbrev pub invariant-steps : goal.invariant-steps
invariant-steps l = record {
  within : l.at ≤ length l.piece;
  used : (u : Use) → IsUsed u l.fn.self → IsUsed (given u (take l.at l.piece)) l.self;
  count : count_of l.self ≡ count_of l.fn.self + l.at;
  left : left_of l.self (length l.piece - l.at) ≤ left_of l.fn.self (length l.piece);
}

abbrev pub decreases-steps : goal.decreases-steps
decreases-steps l = left_of l.self (length l.piece - l.at)

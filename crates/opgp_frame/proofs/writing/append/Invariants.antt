use Rattle.std.proofs.Common.{◌≡◌, ◌≤◌, ◌+◌, ◌++◌, length, vec_len, vec_capacity}
use Rattle.opgp_frame.specs.Spelling.{octets_left}
use Rattle.opgp_frame.proofs.writing.append.Given as goal

-- what is written so far and what is left are all of it
abbrev pub invariant-loop-header : goal.invariant-loop-header
invariant-loop-header l = record {
  room : vec_len l.out + length (octets_left l.spelling) ≤ vec_capacity l.out;
  whole : l.out.items ++ octets_left l.spelling ≡ l.fn.out.items ++ octets_left l.fn.spelling;
}

abbrev pub decreases-loop-header : goal.decreases-loop-header
decreases-loop-header l = length (octets_left l.spelling)

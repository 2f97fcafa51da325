use Rattle.std.proofs.Common.{◌≡◌, ◌+◌, length}
use Rattle.std.specs.List.{prefix_len}
use Rattle.opgp_state.specs.VerdictFile.{is_reason_letter}
use Rattle.opgp_state.proofs.verdict_lines.letters.Given as goal

-- the letters so far, and those that are to come, are all
abbrev pub invariant-letters : goal.invariant-letters
invariant-letters l = record {
  all : l.count + prefix_len is_reason_letter l.rest ≡ prefix_len is_reason_letter l.fn.octets;
  within : l.count + length l.rest ≡ length l.fn.octets;
}

abbrev pub decreases-letters : goal.decreases-letters
decreases-letters l = length l.rest

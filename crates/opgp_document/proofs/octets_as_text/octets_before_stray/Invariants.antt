use Rattle.std.proofs.Common.{◌≡◌, ◌≤◌, ◌+◌, ◌-◌, false, length, drop}
use Rattle.opgp_document.specs.Text.{before_stray, has_stray}
use Rattle.opgp_document.proofs.octets_as_text.octets_before_stray.Given as goal

-- what is left decides
abbrev pub invariant-returns : goal.invariant-returns
invariant-returns l = record {
  within : l.from ≤ length l.octets;
  left : has_stray false (drop l.from l.octets) ≡ has_stray l.after_cr l.octets;
  front : l.from + before_stray false (drop l.from l.octets) ≡ before_stray l.after_cr l.octets;
}

abbrev pub decreases-returns : goal.decreases-returns
decreases-returns l = length l.octets - l.from

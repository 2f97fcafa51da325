use Rattle.std.proofs.Common.{◌≤◌, ◌-◌, length}
use Rattle.opgp_document.proofs.Feeding.{IsFed}
use Rattle.opgp_document.proofs.octets_as_text.lone_feed.Given as goal

-- what was passed stays as it is
abbrev pub invariant-feeds : goal.invariant-feeds
invariant-feeds l = record {
  within : l.start ≤ l.from;
  inside : l.from ≤ length l.octets;
  waits : IsFed l.after_cr l.octets l.start l.from;
}

abbrev pub decreases-feeds : goal.decreases-feeds
decreases-feeds l = length l.octets - l.from

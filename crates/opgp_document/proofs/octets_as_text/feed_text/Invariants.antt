use Rattle.std.proofs.Common.{◌≤◌, ◌-◌, ◌++◌, ℕ, List, length, take}
use Rattle.opgp_document.specs.Text.{to_text}
use Rattle.opgp_document.proofs.octets_as_text.feed_text.Given as goal

abbrev pub invariant-lines : goal.invariant-lines
invariant-lines g l = record {
  within : l.start ≤ length l.octets;
  fed : (m : List ℕ) → g.D.Digest.holds l.fn.hasher m → g.D.Digest.holds l.hasher (m ++ to_text l.after_cr (take l.start l.octets));
}

abbrev pub decreases-lines : goal.decreases-lines
decreases-lines g l = length l.octets - l.start

use Rattle.std.proofs.Common.{◌≡◌, ◌≢◌, ◌≤◌, ◌-◌, ℕ, length, drop, true, false}
use Rattle.opgp_blocks.specs.Line.{is_ending, without_endings}
use Rattle.opgp_blocks.proofs.line.cut_endings.Given as goal

abbrev pub invariant-endings : goal.invariant-endings
invariant-endings l = record {
  left : without_endings l.rest ≡ without_endings l.line;
  few : length l.rest ≤ length l.line;
  within : l.size ≤ length l.rest;
  found : l.size ≢ 0 → is_ending (drop (length l.rest - l.size) l.rest) ≡ true;
  none : l.size ≡ 0 → (k : ℕ) → is_ending (drop k l.rest) ≡ false;
}

abbrev pub decreases-endings : goal.decreases-endings
decreases-endings l = length l.rest

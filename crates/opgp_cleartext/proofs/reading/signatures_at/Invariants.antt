use Rattle.std.proofs.Common.{◌≤◌, ◌-◌, length}
use Rattle.opgp_cleartext.proofs.Passing.{Passed}
use Rattle.opgp_cleartext.proofs.reading.signatures_at.Given as goal

abbrev pub invariant-lines : goal.invariant-lines
invariant-lines l = record {
  behind : l.start ≤ l.at;
  within : l.at ≤ length l.text;
  passed : Passed l.most l.text l.start l.at;
}

abbrev pub decreases-lines : goal.decreases-lines
decreases-lines l = length l.text - l.at
